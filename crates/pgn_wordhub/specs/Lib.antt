pub mod Passes
pub mod Walks
pub mod Wakes
pub mod Placing
pub mod Floors
pub mod Looks
pub mod Advancing
pub mod Finishing
