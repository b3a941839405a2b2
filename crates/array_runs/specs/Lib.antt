pub mod Ran
pub mod TurnedLaws
