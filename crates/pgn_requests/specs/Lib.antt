-- the settings of a client
pub mod Settings
-- what is settled without the session
pub mod Settled
-- the text of a query, without comments and line feeds
pub mod Texts
-- the values of settings
pub mod Values
-- what a text asks for beside the commands of the grammar
pub mod Phrases
-- what a Query's body asks for
pub mod Reading
-- a body asks for one thing
pub mod Laws
