pub mod WhitespaceLaws
