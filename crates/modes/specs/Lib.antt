pub mod Blocks
pub mod Cbc
pub mod Cmac
pub mod Room
pub mod Forms
