pub mod NestLaws
pub mod StackLaws
