pub mod Laws
pub mod Lowest
pub mod Counting
pub mod Eight
