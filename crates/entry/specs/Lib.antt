pub mod Sessions
pub mod Replies
pub mod Opened
pub mod Judged
pub mod Given
pub mod Decided
