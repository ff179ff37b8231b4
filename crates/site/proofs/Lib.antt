pub mod Formula
pub mod Steps
pub mod Valid
