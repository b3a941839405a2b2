pub mod NumberLaws
pub mod RegularLaws
