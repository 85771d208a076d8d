pub mod Answered
pub mod Contracts
pub mod Silence
pub mod Recovery
pub mod Examples
