pub mod InverseSbox
pub mod Columns
pub mod Unmixing
pub mod Maps
pub mod Inverse
pub mod Unique
