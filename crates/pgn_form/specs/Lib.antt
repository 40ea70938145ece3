pub mod Cuts
pub mod Places
pub mod Drafts
pub mod Stands
