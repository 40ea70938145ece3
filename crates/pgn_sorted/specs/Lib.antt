-- how lines are sorted
pub mod Sorting
-- laws of a live output
pub mod Laws
-- data of the examples
pub mod Examples
