pub mod Puts
pub mod CapLaws
