pub mod SimpleKeyLaws
