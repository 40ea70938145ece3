pub mod RunLaws
pub mod OverLaws
-- what a run comes to, by how its input was read and answered
mod CommandLaws
pub mod AskedLaws
pub mod LiveLaws
-- what is written last of a live run
mod BareLaws
-- what comes of a conversation
pub mod WireLaws
-- how an input of `check` is parted
pub mod PartingLaws
-- what comes of it
pub mod CheckingLaws
-- what comes of a service
pub mod ServeLaws
-- what the call of the program says, from what its command came to
pub mod CallLaws
