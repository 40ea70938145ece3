pub mod Least
pub mod Behind
pub mod Zero
