pub mod Findings
pub mod Keeps
pub mod Runs
pub mod Stays
pub mod Examples
pub mod Unique
pub mod UniqueReader
