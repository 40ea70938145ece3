-- laws of the output
pub mod Laws
-- data of the examples
pub mod Examples
