pub mod Grammar
pub mod Quiet
pub mod Premises
pub mod RuledOut
