-- what holds of a session as its pass comes to know more
pub mod KnownLaws
-- a read, and a session that need not read
pub mod ReadLaws
-- a session that is over, and one that begins
pub mod OverLaws
-- a read between two lines
pub mod FirstReadLaws
-- a line that the block answers
pub mod BlockLaws
-- a commit
pub mod CommitLaws
-- a line that raises a flag, and one that awaits one
pub mod FlagLaws
-- a turn of an await
pub mod AwaitLaws
-- a line that quits
pub mod QuitLaws
-- the queue's usage
pub mod UsageLaws
-- what each step of a commit leaves
pub mod CommitSteps
-- what comes of a commit
pub mod CommittedLaws
-- of one that meets a full queue
pub mod FullLaws
-- a session that has slept
pub mod SleepLaws
-- sessions that sleep together
pub mod TogetherLaws
-- a session that has given up
pub mod GiveUpLaws
-- the end of a script
pub mod EndLaws
-- what a step came to
pub mod StepLaws
-- what a step of a whole session promises
pub mod WholeLaws
-- the line of a script that comes next
pub mod NextLaws
-- a step by a command
pub mod RunLaws
-- items that only come behind others
pub mod GrowthLaws
-- a trace that is lawful so far
pub mod LawfulLaws
-- a walk over a script that has grown
pub mod FeedWalkLaws
-- a session whose script has grown
pub mod FeedLaws
-- a script that is open, and a line that was put into it
pub mod OpenLaws
-- a line with a command, taken from it
pub mod LineTakenLaws
-- its `\quit`
pub mod OpenQuitLaws
