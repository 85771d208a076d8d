-- The data of a message are the bytes of the block that it asks for, so that frames and memory count by one step; and
-- no message asks for a block of no words.
use mathlib.Core.Path.{◌≡◌}
use Prim.Native.Nat.{ℕ, ◌+◌, ◌*◌, ◌<◌}
use native.Mathlib.Omega.{arith}
use Rattle.memory.specs.Address.{step_of, address_of}
use Rattle.memory.specs.Areas.{word_bytes, byte_count}
use Rattle.memory.specs.declared.BlockSize.{BlockSize}
use Rattle.memory.specs.declared.BlockSize.TheVariants.{Bits64, Bits16}
use Rattle.memory.specs.declared.Profile.{Profile}
use Rattle.frames.specs.Asked.{block_asked}
use Rattle.frames.specs.Blocks.{block_bytes, data_length}
use Rattle.frames.specs.declared.Custom.{Custom}

data_bytes : (s : BlockSize) (n : ℕ) → (n + 1) * block_bytes s ≡ (n + 1) * step_of s * word_bytes
unfolding block_bytes step_of
data_bytes Bits64 n = omega arith
data_bytes Bits16 n = omega arith

pub asked_bytes : (p : Profile) (c : Custom) → data_length c.blocksize c.blockcount ≡ byte_count (block_asked p c)
unfolding data_length block_asked address_of
asked_bytes p c = data_bytes c.blocksize c.blockcount

some_words : (s : BlockSize) (n : ℕ) → 0 < (n + 1) * step_of s
unfolding step_of
some_words Bits64 n = omega arith
some_words Bits16 n = omega arith

pub asked_some : (p : Profile) (c : Custom) → 0 < (block_asked p c).words
unfolding block_asked address_of
asked_some p c = some_words c.blocksize c.blockcount
