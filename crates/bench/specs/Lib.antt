pub mod Kept
pub mod OneWalked
