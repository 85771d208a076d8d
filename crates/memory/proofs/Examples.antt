-- The scope paper's examples (8) to (10), with the sizes that 9.2 gives the two values of BlockSize: the paper has them
-- exchanged. What 9.2 makes of the paper's own wording stands beside them, and the edges of locks and MPI.
use mathlib.Core.Path.{◌≡◌, refl}
use mathlib.Core.Bool.{true, false}
use Prim.Native.Nat.{ℕ}
use Rattle.memory.specs.declared.Area.TheVariants.{User}
use Rattle.memory.specs.declared.BlockSize.{BlockSize}
use Rattle.memory.specs.declared.BlockSize.TheVariants.{Bits64, Bits16}
use Rattle.memory.specs.declared.Profile.{Profile}
use Rattle.memory.specs.declared.Block.{Block}
use Rattle.memory.specs.declared.Lock.{Lock}
use Rattle.memory.specs.Rights.{holds, some, meets, permitted}
use Rattle.memory.specs.Address.{
  area_number,
  same_area,
  block_size_bit,
  step_of,
  address_of,
  last_word,
  profile_end,
  overruns,
}

-- base 32, 24 words
abbrev pub profile : Profile
profile = record { area = User; base = record { 0 = 32 }; words = 24 }

-- one data block at the Offset
abbrev pub at : BlockSize → ℕ → Block
at size offset = address_of profile size (record { 0 = offset }) 1

-- (8) 64-bit blocks, Offset 5: words 52 to 55, allowed
pub example_8 : ((at Bits64 5).first.0 ≡ 52) × (last_word (at Bits64 5) ≡ 55) × (overruns profile (at Bits64 5) ≡ false)
unfolding address_of step_of last_word profile_end overruns
example_8 = (refl, refl, refl)

-- (9) 64-bit blocks, Offset 6: refused
pub example_9 : overruns profile (at Bits64 6) ≡ true
unfolding address_of step_of last_word profile_end overruns
example_9 = refl

-- (10) 16-bit blocks, Offset 5: word 37
pub example_10 : ((at Bits16 5).first.0 ≡ 37) × (last_word (at Bits16 5) ≡ 37)
unfolding address_of step_of last_word
example_10 = (refl, refl)

-- against (9) as the paper prints it: with 16-bit blocks Offset 6 is word 38, and allowed
pub not_9 : ((at Bits16 6).first.0 ≡ 38) × (last_word (at Bits16 6) ≡ 38) × (overruns profile (at Bits16 6) ≡ false)
unfolding address_of step_of last_word profile_end overruns
not_9 = (refl, refl, refl)

-- the value 0 is the one with 64-bit blocks, the value 1 the one with 16-bit blocks
pub sizes : (block_size_bit Bits64 ≡ 0) × (step_of Bits64 ≡ 4) × (block_size_bit Bits16 ≡ 1) × (step_of Bits16 ≡ 1)
unfolding block_size_bit step_of
sizes = (refl, refl, refl, refl)

-- a lock of one word of the user area
abbrev lock : ℕ → Lock
lock w = record { area = User; first = record { 0 = w }; words = 1 }

-- words 52 to 55 are locked by a lock on the first or the last of them, and by none on the word before or after
pub locked_edges : (meets (at Bits64 5) (lock 51) ≡ false) × (meets (at Bits64 5) (lock 52) ≡ true)
    × (meets (at Bits64 5) (lock 55) ≡ true)
    × (meets (at Bits64 5) (lock 56) ≡ false)
unfolding address_of step_of meets some holds same_area area_number
locked_edges = (refl, refl, refl, refl)

-- MPI 0007 permits profile 2 and not profile 3, and 8000 permits profile 15
pub permitted_edges : (permitted 0x0007 2 ≡ true) × (permitted 0x0007 3 ≡ false) × (permitted 0x8000 15 ≡ true)
    × (permitted 0x8000 0 ≡ false)
unfolding permitted
permitted_edges = (refl, refl, refl, refl)
