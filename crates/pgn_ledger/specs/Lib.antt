pub mod Places
pub mod Turns
pub mod QueueUse
pub mod ToShow
