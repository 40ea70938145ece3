-- the scenario of a drill
pub mod Drill
-- it reads as one
pub mod Laws
