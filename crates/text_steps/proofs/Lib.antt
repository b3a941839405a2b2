pub mod TextVerdictLaws
