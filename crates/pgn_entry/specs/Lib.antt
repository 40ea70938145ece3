pub mod Cells
pub mod Laws
pub mod Parts
pub mod Pieces
pub mod Reading
