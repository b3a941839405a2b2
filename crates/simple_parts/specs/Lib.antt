pub mod SimpleKeys
