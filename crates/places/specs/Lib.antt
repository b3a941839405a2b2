pub mod Places
pub mod Plain
pub mod PlaceLaws
