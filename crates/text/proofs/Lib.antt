-- Laws that the proofs of this crate cite.
pub mod Choices
pub mod Values
pub mod Words
pub mod Rooms
pub mod Pairs
pub mod Readings
pub mod Decimals
pub mod Unique
pub mod HexInverse
pub mod DecimalInverse
pub mod Said
pub mod Examples
pub mod Inhabited
