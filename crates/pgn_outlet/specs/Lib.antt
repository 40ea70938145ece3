-- what a queue carries, by session
pub mod Cames
-- the rule that every step keeps
pub mod Rule
-- what a pass knows
pub mod Passes
