-- what a whole conversation of a client is
pub mod Conversation
-- what a service of seats is
pub mod Service
-- what is opened for it, and what each of its seats has
pub mod Seats
-- what its arms come to
pub mod Arms
-- what is known once they are done
pub mod Closing
-- how it ends
pub mod Ending
