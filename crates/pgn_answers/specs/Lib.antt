pub use Rattle.pgn_base.specs.Channels
-- a transaction's list, and what its commands are answered
pub mod Savepoints
pub mod Answers
pub mod Refusals
-- laws over these definitions
pub mod laws
