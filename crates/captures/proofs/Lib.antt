pub mod Pieces
pub mod Fields
pub mod Numbers
pub mod Shapes
pub mod Bounds
pub mod Cells
