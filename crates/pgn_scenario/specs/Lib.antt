pub mod Cutting
pub mod Parting
pub mod Saying
pub mod Flags
pub mod Steps
