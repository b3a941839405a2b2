pub mod Expressed
