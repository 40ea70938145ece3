pub mod Growing
pub mod NextLine
pub mod Text
