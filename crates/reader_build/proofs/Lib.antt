pub mod Making
pub mod Unique
pub mod Responses
pub mod Sending
pub mod Iam3Made
