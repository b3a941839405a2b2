pub mod BracketLaws
