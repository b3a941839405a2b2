pub mod Checking
pub mod TextPromises
pub mod Examples
pub mod ReadTexts
