pub mod KeyWalks
pub mod DotLaws
pub mod SpaceLaws
