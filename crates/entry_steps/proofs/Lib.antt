pub mod NumberLaws
pub mod PourLaws
pub mod AnswerLaws
pub mod EntryLaws
