pub mod Irregular
