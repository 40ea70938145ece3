pub mod Sent
pub mod Places
pub mod Lists
pub mod Next
