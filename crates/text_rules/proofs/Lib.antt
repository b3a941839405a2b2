pub mod TextTheorems
pub mod TextsRead
pub mod TextBounds
