pub mod Words
pub mod Text
pub mod Capture
pub mod Reading
