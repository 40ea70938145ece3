-- a query that was taken, and a session that was stopped
pub mod TakenLaws
-- what stands written of an answer
pub mod WrittenLaws
-- a client that is served, a query at a time
pub mod ServingLaws
