-- What the contracts of frames cite: clause 9 and Table 1 of ISO/IEC 29167-10, and the table of messages of the scope
-- paper. Bytes and bits go most significant first.
pub mod Kinds
pub mod Blocks
pub mod Fields
pub mod Modes
pub mod Asked
pub mod Messages
pub mod Lengths
pub mod Header
pub mod Constants
pub mod Built
