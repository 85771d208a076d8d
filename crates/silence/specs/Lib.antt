-- Demand 3: one bench carries several clients' keys.
pub mod Names
pub mod Silence
pub mod Sheets
