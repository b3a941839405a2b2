pub mod ScalarWalks
pub mod StartLaws
