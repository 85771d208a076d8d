pub mod Outcomes
pub mod Checks
pub mod Records
pub mod Judged
