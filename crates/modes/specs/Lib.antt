pub mod Modes
pub mod CommaTexts
