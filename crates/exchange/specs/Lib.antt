-- What the contracts of exchange cite: M-100, turn after turn.
pub mod Runs
