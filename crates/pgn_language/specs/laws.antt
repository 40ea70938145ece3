-- Laws over the definitions.
pub mod Tokens
pub mod Grammar
pub mod Commands
pub mod Inputs
