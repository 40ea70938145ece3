-- lists that begin others; the journal, and what is due from it
pub mod Begins
pub mod Journal
pub mod Due
-- which channels a reader may care for, as one number
pub mod Interest
-- the queue: the bytes of entries, where they lie, and how much of it is in use
pub mod Bytes
pub mod Packing
pub mod Near
pub mod QueueUse
pub mod Pieces
-- laws over these definitions
pub mod laws
