-- Worked examples, written out.
pub mod Runs
pub mod Pieces
pub mod Savepoints
pub mod Answers
pub mod Due
pub mod Texts
pub mod Inputs
pub mod Scripts
pub mod Blocks
pub mod Flags
pub mod FullQueue
pub mod RefusedRuns
pub mod Walks
pub mod WholeRuns
-- command lines and a drill
pub mod CommandLines
pub mod TakingMemory
pub mod Lines
pub mod Merge
pub mod Reading
pub mod Requests
pub mod Queries
pub mod Messages
pub mod Turns
pub mod Conversations
pub mod Frames
pub mod Packing
