pub mod AnswerLemmas
pub mod SavepointLemmas
pub mod NotedLemmas
