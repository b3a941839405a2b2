pub mod NumberingLaws
