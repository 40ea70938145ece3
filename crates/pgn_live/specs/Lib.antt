-- what comes of sessions
pub mod Cames
-- what a session has told
pub mod Telling
-- what holds of sessions that run and tell
pub mod Playing
-- what holds of sessions that take turns and tell
pub mod Turns
-- what is written while they run
pub mod Lives
-- what holds of them as workers
pub mod Workers
