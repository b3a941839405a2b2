pub mod Keyless
