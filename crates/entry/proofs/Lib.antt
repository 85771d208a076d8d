pub mod Judging
pub mod Sent
pub mod Passed
pub mod Mam1Reply
pub mod Giving
pub mod Unique
