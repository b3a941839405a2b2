pub mod TextVerdicts
pub mod Begun
pub mod BegunLaws
