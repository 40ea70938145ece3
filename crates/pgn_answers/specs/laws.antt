-- Laws over the definitions.
pub mod Savepoints
pub mod Answers
