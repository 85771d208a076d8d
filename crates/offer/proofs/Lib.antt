pub mod Lines
pub mod Passed
pub mod Bytes
pub mod PaperNumbers
pub mod Unique
