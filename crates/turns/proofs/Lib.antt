pub mod Turning
pub mod Limits
pub mod Unique
