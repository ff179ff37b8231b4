pub mod Judged
pub mod Places
pub mod Told
pub mod Laid
pub mod Filled
pub mod Promised
