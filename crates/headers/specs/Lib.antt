pub mod Headers
pub mod Placing
pub mod States
