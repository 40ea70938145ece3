-- what a client sends, and what comes next of it
pub mod Client
-- all queries of a client
pub mod Queries
-- the script of a client's queries
pub mod Script
-- they have one reading
pub mod Laws
