pub mod SheetLaws
pub mod ListingLaws
pub mod TakenLaws
