-- what the bytes of a text do to where the next stands
pub mod Modes
-- what a Query's body is
pub mod Bodies
-- the tokens of the code
pub mod Lexemes
-- calls of pg_notify as the code has them
pub mod Calls
-- what the steps of the reading give
pub mod Steps
-- settings by their names, and values of them by words
pub mod Choices
