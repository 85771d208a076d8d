-- Laws that the proofs of this crate cite, and that crates above it may cite.
pub mod Bytes
pub mod Overs
pub mod Rooms
pub mod Zeros
pub mod Lengths
pub mod Data
pub mod Recovered
pub mod Macs
pub mod Unique
