pub mod Limits
pub mod Map
pub mod Paths
