-- a session's trace, a legal run, and the output
pub mod Along
pub mod Walk
pub mod Trace
pub mod Legal
pub mod Text
-- laws over these definitions
pub mod laws
