-- what the words of the command line ask for
pub mod Words
-- the command that the words are parsed with, and what a parse finds
pub mod Parse
