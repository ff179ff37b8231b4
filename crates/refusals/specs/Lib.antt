pub mod Refusals
pub mod Conditions
