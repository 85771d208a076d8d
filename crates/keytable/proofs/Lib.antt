pub mod Named
mod Records
pub mod Unique
