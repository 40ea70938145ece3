-- which journal traces show
pub mod Merged
-- traces whose notifications have moved into the journal
pub mod Bare
-- how transactions are put into their places
pub mod Slots
-- laws of what traces show
pub mod Laws
-- what the lines of a trace show, and what the walk adds
pub mod Completed
-- the form of an output
pub mod Form
-- what items show by themselves
pub mod Shown
-- which lines are to blame
pub mod Blame
-- laws of the walk
pub mod WalkLaws
-- laws of what items show
pub mod ShownLaws
-- laws of what is read
pub mod ReadableLaws
-- laws of blame
pub mod BlameLaws
-- laws of what begins an output
pub mod GoesOnLaws
-- laws of all sections together
pub mod WholeLaws
