pub mod Kept
pub mod Counts
pub mod Views
pub mod Effects
pub mod Steps
