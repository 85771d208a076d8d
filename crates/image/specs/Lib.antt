pub mod Places
pub mod Image
pub mod Kept
