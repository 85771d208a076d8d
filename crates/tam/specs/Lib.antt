pub mod Replies
pub mod Judged
pub mod Given
