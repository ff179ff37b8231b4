pub mod Cells
pub mod Gathering
pub mod Largest
pub mod Spreading
pub mod Scan
pub mod Mirrored
pub mod Sizes
pub mod Verdicts
