-- a hub that is opened for one client
pub mod ClientLaws
-- how many notifications a section may send is no matter of its trace
mod NotedLaws
-- how a conversation ends
pub mod ConversationLaws
-- what is opened for the seats of a service
pub mod SeatingLaws
-- what its arms come to
pub mod ArmLaws
-- how it is closed
pub mod ClosingLaws
-- what it comes to whole
pub mod ServiceLaws
