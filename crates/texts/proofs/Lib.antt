pub mod Lines
pub mod Tables
