-- What the contracts of reader_judge cite: the Interrogator's processing of each reply, clause 9.
pub mod Findings
pub mod Opened
pub mod Judged
