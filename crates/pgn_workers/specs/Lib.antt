-- what workers are and come to
pub mod Parts
