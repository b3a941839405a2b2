pub mod Numbers
pub mod Printable
