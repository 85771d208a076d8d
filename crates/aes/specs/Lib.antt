pub mod Cipher
pub mod KeyExpansion
pub mod NextRoundKey
pub mod AesEnc
