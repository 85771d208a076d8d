-- How much custom data a message asks for (9.2). All lengths are in bytes.
use Rattle.std.specs.Prelude.{ℕ, ◌+◌, ◌*◌, ◌/◌, ◌%◌, ◌≤◌, Bool, true, false}
use Rattle.memory.specs.declared.BlockSize.{BlockSize}
use Rattle.memory.specs.declared.BlockSize.TheVariants.{Bits64, Bits16}

-- 9.2, BlockSize: a data block has 64 bits at value 0 and 16 bits at value 1
unfoldable pub block_bytes : BlockSize → ℕ
block_bytes Bits64 = 8
block_bytes Bits16 = 2

-- 9.2, BlockCount: the value n stands for n + 1 data blocks
unfoldable pub data_length : BlockSize → ℕ → ℕ
data_length s n = (n + 1) * block_bytes s

-- 9.2: H, 64 bits or 32 bits
unfoldable pub header_length : BlockSize → ℕ
header_length Bits64 = 8
header_length Bits16 = 4

-- what stands before the data: a header in TAM2 Rev 1 and in IAM3, nothing in TAM2 Rev 0
unfoldable pub header_part : BlockSize → Bool → ℕ
header_part s true = header_length s
header_part s false = 0

-- header and data together
unfoldable pub carried : BlockSize → Bool → ℕ → ℕ
carried s header n = header_part s header + data_length s n

-- a block of the cipher: 128 bits
abbrev pub cipher_block : ℕ
cipher_block = 16

-- d is the least number of 128-bit blocks that holds header and data
pub record IsD (s : BlockSize) (header : Bool) (n d : ℕ) : Type 0 where
  pub holds : carried s header n ≤ d * cipher_block
  pub least : (e : ℕ) → carried s header n ≤ e * cipher_block → d ≤ e

-- 9.2: D, header and data in 128-bit blocks, the last one filled up
unfoldable pub d_of : BlockSize → Bool → ℕ → ℕ
d_of s header n = (carried s header n + 15) / cipher_block

-- 9.2: the four formulas as the clause prints them
unfoldable pub printed_d : BlockSize → Bool → ℕ → ℕ
printed_d Bits64 false n = (n + 1) / 2 + (n + 1) % 2
printed_d Bits16 false n = (n + 8) / 8
printed_d Bits64 true n = (n + 2) / 2 + (n + 2) % 2
printed_d Bits16 true n = (n + 10) / 8

-- the bytes of all D blocks
unfoldable pub blocks_length : BlockSize → Bool → ℕ → ℕ
blocks_length s header n = cipher_block * d_of s header n
