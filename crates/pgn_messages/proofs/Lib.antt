-- bytes behind bytes
pub mod BytesLaws
-- digits
pub mod DigitsLaws
-- how messages grow
pub mod GrowLaws
-- the lines that are still to come
pub mod RestLaws
-- how turns grow
pub mod TurnGrowLaws
-- turns and the walk over a trace
pub mod WalkLaws
-- what is told of names that are cut
mod CutLaws
-- what loops put
mod PutLaws
