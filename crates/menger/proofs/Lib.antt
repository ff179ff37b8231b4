pub mod Network
pub mod Walks
pub mod Flow
pub mod Units
pub mod Trail
pub mod Few
pub mod Leaving
