pub mod Numbers
pub mod Left
pub mod Writing
pub mod Lines
pub mod Room
