pub mod StateLaws
pub mod CountLaws
