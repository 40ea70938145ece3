-- what the parts of a call do
pub mod Parts
-- what a commit does
pub mod Commits
-- what holds of a session between its calls
pub mod Standing
-- what a step does
pub mod Steps
-- what a sleep counts
pub mod Sleep
-- the same of a whole session
pub mod Whole
-- what holds of a session before it runs and once it has run
pub mod Runs
-- a script that grows
pub mod Feed
-- before which lines a session reads
pub mod FirstRead
-- a script that is open: a line is put in, taken, and the next may come
pub mod Open
