pub mod TextOutcome
pub mod TextPremises
pub mod RegularLaws
pub mod LexedLaws
pub mod RunLaws
pub mod TextLaws
pub mod Ascii
pub mod TextsRead
