pub mod BufferLaws
pub mod OutcomeLaws
pub mod Texts
pub mod KeyCosts
