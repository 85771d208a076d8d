pub mod Inverse
pub mod Unique
