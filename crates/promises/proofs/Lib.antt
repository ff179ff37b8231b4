pub mod Settled
pub mod Empty
pub mod OwnPaths
pub mod Handhelds
