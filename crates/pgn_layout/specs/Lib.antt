pub mod Batches
pub mod Status
pub mod Laws
