-- No second answer fits the contracts of the exported functions.
pub mod Unique
pub mod UniqueCursor
