pub mod StructLaws
pub mod KeptLaws
