-- What the contracts of turns cite: M-100, a turn of each half, over the tag's answer and the reader's messages and
-- judgement.
pub mod Standings
pub mod Sends
pub mod Turns
