pub mod Shows
pub mod Order
pub mod Once
pub mod Replies
pub mod Search
pub mod Rest
pub mod Depth
