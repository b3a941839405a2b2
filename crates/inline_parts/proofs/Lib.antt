pub mod TrailingLaws
