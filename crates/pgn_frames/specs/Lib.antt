-- frames, and the signs of each seat
pub mod Frames
-- what a reader of frames gives
pub mod Arrivals
-- the clients of a seat, one after another, and what they ask
pub mod Clients
-- where a reader stands with a seat, and what it has put of what that asks
pub mod Callers
-- what a reader of frames has put
pub mod Reading
-- what a writer of frames has written
pub mod Writing
-- that each input has one reading
pub mod Laws
