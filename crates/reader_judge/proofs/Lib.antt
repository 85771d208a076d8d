pub mod Places
pub mod Judging
pub mod Every
pub mod Arms
pub mod Clear
pub mod Unique
pub mod Whole
