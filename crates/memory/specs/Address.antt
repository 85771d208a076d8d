-- Which words a message asks for: ISO/IEC 29167-10, 9.2, and the scope paper, "Memory".
use Rattle.std.specs.Prelude.{ℕ, ◌+◌, ◌-◌, ◌*◌, Bool, ◌&&◌, leb, ltb, eqb}
use Rattle.ground.specs.Choice.{pick}
use Rattle.memory.specs.declared.Area.{Area}
use Rattle.memory.specs.declared.Area.TheVariants.{Identity, User}
use Rattle.memory.specs.declared.BlockSize.{BlockSize}
use Rattle.memory.specs.declared.BlockSize.TheVariants.{Bits64, Bits16}
use Rattle.memory.specs.declared.Offset.{Offset}
use Rattle.memory.specs.declared.Profile.{Profile}
use Rattle.memory.specs.declared.Block.{Block}

-- "Memory": the number of each area
unfoldable pub area_number : Area → ℕ
area_number Identity = 0
area_number User = 1

-- the two are one area
unfoldable pub same_area : Area → Area → Bool
same_area a b = eqb (area_number a) (area_number b)

-- 9.2, BlockSize: 0 is 64-bit blocks, 1 is 16-bit blocks
unfoldable pub block_size_bit : BlockSize → ℕ
block_size_bit Bits64 = 0
block_size_bit Bits16 = 1

-- the same, read from a number
unfoldable pub size_of : ℕ → BlockSize
size_of b = pick (eqb b 0) Bits64 Bits16

-- the 16-bit words of one data block: the step by which an Offset counts
unfoldable pub step_of : BlockSize → ℕ
step_of Bits64 = 4
step_of Bits16 = 1

-- 9.2, Offset and BlockCount: `count` data blocks, from `offset` data blocks after the profile's first word on
unfoldable pub address_of : Profile → BlockSize → Offset → ℕ → Block
address_of profile size offset count =
    record {
      area = profile.area;
      first = record { 0 = profile.base.0 + offset.0 * step_of size };
      words = count * step_of size;
    }

-- the last word of a block that has one
unfoldable pub last_word : Block → ℕ
last_word block = block.first.0 + block.words - 1

-- a profile's end: the first word after it
unfoldable pub profile_end : Profile → ℕ
profile_end profile = profile.base.0 + profile.words

-- "Memory": refused exactly when its last word lies past the profile's end; a block of no words never is
unfoldable pub overruns : Profile → Block → Bool
overruns profile block = ltb 0 block.words && leb (profile_end profile) (last_word block)
