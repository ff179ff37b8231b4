pub mod Survey
pub mod Delivered
