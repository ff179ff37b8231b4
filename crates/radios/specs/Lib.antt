pub mod Member
pub mod Bytes
pub mod Links
