-- what a line reads as, and what an input does
pub mod Quotes
pub mod Tokens
pub mod Grammar
pub mod Lines
pub mod Inputs
-- laws over these definitions
pub mod laws
