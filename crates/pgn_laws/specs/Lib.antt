-- What laws say, where no proof of the program needs it.
pub mod Block
pub mod Begins
pub mod Due
pub mod Lanes
pub mod Walk
pub mod Words
