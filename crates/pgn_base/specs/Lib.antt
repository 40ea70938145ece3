pub mod Places
pub mod Texts
pub mod Names
pub mod Notes
pub mod Channels
pub mod Interest
pub mod Outside
pub mod Hashes
