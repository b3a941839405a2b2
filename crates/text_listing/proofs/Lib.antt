pub mod CheckLaws
pub mod DecideLaws
pub mod Examples
