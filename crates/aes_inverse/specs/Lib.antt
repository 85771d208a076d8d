pub mod InvSbox
pub mod InvCipher
pub mod AesDec
