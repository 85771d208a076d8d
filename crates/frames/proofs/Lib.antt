-- Laws that the proofs of this crate cite, and that crates above it may cite.
pub mod Least
pub mod Asked
pub mod Bounds
pub mod Places
pub mod Joins
pub mod Range
pub mod Laid
pub mod Tests
pub mod FirstByte
pub mod Taken
pub mod Inverse
pub mod HeaderBack
pub mod Told
pub mod ProtModes
pub mod Shape
pub mod Examples
pub mod Unique
