-- what a queue is opened for
pub mod Shape
-- what a pass is as it is opened, and what always holds of it
pub mod Passes
-- what each call does to what is known of its pass
pub mod Calls
-- what is known when all passes are gathered
pub mod Gathered
-- laws of what the calls say
pub mod Laws
