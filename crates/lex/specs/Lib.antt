pub mod Refusals
pub mod Lexed
pub mod Tokens
pub mod Texts
pub mod LexLaws
pub mod TextLaws
