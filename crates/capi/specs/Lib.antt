pub mod Kept
pub mod Run
pub mod Reader
pub mod Chain
