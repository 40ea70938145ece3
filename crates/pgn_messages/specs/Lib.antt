-- the messages of a server
pub mod Server
-- a session's trace as messages
pub mod Messages
-- how they grow
pub mod Laws
-- what a seat is asked, and its script
pub mod Asks
-- what a client of a service is answered
pub mod Served
-- and of names that are cut
pub mod Cutting
-- a session's trace in turns, and what is told of them
pub mod Turns
-- what clients are told, piece by piece
pub mod Sayings
-- how turns grow, and what they make of a trace
pub mod TurnLaws
