-- what contracts see of all sessions of a scenario
pub mod Parts
-- what holds of whole sessions
pub mod Whole
-- sessions as workers
pub mod Work
-- how sessions that are over hear from each other
pub mod Drain
-- what the sessions of a scenario are given
pub mod Opened
-- what they come to
pub mod Ended
-- laws of a whole run
pub mod Laws
