pub mod Messages
pub mod Pieces
pub mod Finding
