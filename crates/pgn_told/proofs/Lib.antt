-- a message ends where the next begins
pub mod ByteLaws
-- states but for their numbers
pub mod PlainLaws
-- which item is allowed
pub mod FitLaws
-- what is known of each item
pub mod KnownLaws
-- two traces with the same messages, item by item
pub mod StageLaws
-- and line by line
pub mod LineLaws
-- the journal that a trace shows
pub mod EntryLaws
-- the law
pub mod TellLaws
-- the law, of a client's bytes
pub mod AskedLaws
-- scripts that are no client's
pub mod ExampleLaws
