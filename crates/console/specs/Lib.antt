-- What the contracts of console cite.
pub mod Reasons
pub mod Counts
pub mod Words
pub mod Shown
