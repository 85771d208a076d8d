-- What the contracts of text cite.
pub mod Digits
pub mod Hex
pub mod Decimal
pub mod Room
pub mod Inverse
