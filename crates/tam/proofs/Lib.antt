pub mod Listed
pub mod ReplyLengths
pub mod ReplyBytes
pub mod ReplyLayouts
pub mod Tam2Asked
pub mod Tam2Made
pub mod Passed
pub mod Unique
