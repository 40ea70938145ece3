pub mod Interest
pub mod Bytes
pub mod Packing
pub mod Near
pub mod QueueUse
pub mod Pieces
