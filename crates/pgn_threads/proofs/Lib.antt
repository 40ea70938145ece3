mod DrainLaws
mod FlagWalkLaws
mod LastReadLaws
pub mod ListLemmas
mod MeetLaws
mod OpenLaws
mod RunLaws
mod ToldLaws
pub mod WholeLaws
mod WorkLaws
