pub mod Schedule
pub mod Forward
pub mod Unique
