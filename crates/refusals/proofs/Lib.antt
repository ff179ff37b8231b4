pub mod Exactly
pub mod Accepted
