pub mod PlacedLaws
pub mod ReadLaws
