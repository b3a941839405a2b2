pub mod Mistakes
pub mod Sheets
pub mod Outcome
pub mod Promises
