pub mod Entries
pub mod Sections
pub mod Verdicts
pub mod Fresh
pub mod Walked
-- laws of what is seen of a legal run
pub mod Laws
