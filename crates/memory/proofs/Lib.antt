-- The laws of memory: of its definitions, for whoever builds on them, and of its functions' steps.
pub mod Truth
pub mod Addresses
pub mod Windows
pub mod Stores
pub mod Locks
pub mod Masks
pub mod Examples
pub mod Unique
