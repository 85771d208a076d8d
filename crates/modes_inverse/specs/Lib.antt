pub mod CbcInv
