pub mod Counting
pub mod Padded
