pub mod Texts
pub mod Lexing
pub mod Statements
pub mod Reading
