-- what holds by an answer
pub mod ResultLaws
-- what a pass knows that has told something
pub mod SayLaws
-- a session over the parts of a turn
pub mod WorkLaws
-- what was done and told
pub mod DoneLaws
-- a desk over a turn
pub mod SeatLaws
-- desks by their numbers
pub mod DeskRowLaws
-- desks over turns
pub mod DeskTurnLaws
-- desks in two halves
pub mod DeskHalfLaws
-- desks as workers
pub mod DeskWorkLaws
