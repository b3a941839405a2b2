pub mod WalkLaws
pub mod IndexLaws
pub mod AgainLaws
pub mod RunLaws
