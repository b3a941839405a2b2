pub mod Nested
pub mod NestedLaws
