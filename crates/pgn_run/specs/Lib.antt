-- what `check` reads and answers
pub mod Checking
-- the status of each end of a client, and of a service
pub mod Ending
-- what is said of a live run
pub mod Live
-- what the call of the program says
pub mod Run
-- what each command comes to, of which that is said
pub mod Calls
