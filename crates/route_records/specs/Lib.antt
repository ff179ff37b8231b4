pub mod Records
pub mod Filling
pub mod Promise
pub mod Told
