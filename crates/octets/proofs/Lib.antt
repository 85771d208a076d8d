-- Laws that the proofs of this crate cite, and that crates above it may cite.
pub mod Parts
pub mod Alike
pub mod AllZero
pub mod Unique
