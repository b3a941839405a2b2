pub mod RecordLaws
pub mod PuttingLaws
pub mod TakenLaws
