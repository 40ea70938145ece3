-- what a client sees of a run
pub mod Told
-- that its messages tell it
pub mod Laws
-- traces, journals and scripts, as examples
pub mod Examples
