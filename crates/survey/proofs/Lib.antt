pub mod Tails
pub mod Together
pub mod Kept
