pub mod Listening
pub mod Bits
