-- D is the least number of 128-bit blocks that holds header and data; it is what 9.2 prints, and at most 9.
use mathlib.Core.Path.{◌≡◌, refl}
use mathlib.Core.Bool.{Bool, true, false}
use mathlib.Core.List.{List, [], ◌∷◌}
use Prim.Native.Nat.{ℕ, zero, suc, ◌+◌, ◌*◌, ◌≤◌, ◌<◌}
use native.Mathlib.Omega.{arith}
use Rattle.std.specs.Int.{div_ceil}
use Rattle.memory.specs.declared.BlockSize.{BlockSize}
use Rattle.memory.specs.declared.BlockSize.TheVariants.{Bits64, Bits16}
use Rattle.frames.specs.Blocks.{
  block_bytes,
  header_length,
  header_part,
  data_length,
  carried,
  IsD,
  d_of,
  printed_d,
  blocks_length,
}

pub data_bound : (s : BlockSize) (n : ℕ) → data_length s n ≤ (n + 1) * 8
unfolding data_length block_bytes
data_bound Bits64 n = omega arith
data_bound Bits16 n = omega arith

pub header_bound : (s : BlockSize) → header_length s ≤ 8
unfolding header_length
header_bound Bits64 = omega arith
header_bound Bits16 = omega arith

pub part_bound : (s : BlockSize) (header : Bool) → header_part s header ≤ 8
unfolding header_part header_length
part_bound Bits64 true = omega arith
part_bound Bits64 false = omega arith
part_bound Bits16 true = omega arith
part_bound Bits16 false = omega arith

-- D is what stands before the data, and the data, by 16 and rounded up
pub d_told : (s : BlockSize) (header : Bool) (n k : ℕ) → k ≡ div_ceil (header_part s header + data_length s n) 16
    → k ≡ d_of s header n
unfolding d_of carried
d_told s header n k e = omega arith

pub d_least : (s : BlockSize) (header : Bool) (n : ℕ) → IsD s header n (d_of s header n)
unfolding d_of
d_least s header n = record { holds = omega arith; least = λ e h. omega arith }

pub d_only : (s : BlockSize) (header : Bool) (n d : ℕ) → IsD s header n d → d ≡ d_of s header n
unfolding d_of
d_only s header n d h =
    let up : d ≤ d_of s header n = h.least (d_of s header n) (d_least s header n).holds in
    let down : d_of s header n ≤ d = (d_least s header n).least d h.holds in
    omega arith

pub d_printed : (s : BlockSize) (header : Bool) (n : ℕ) → d_of s header n ≡ printed_d s header n
unfolding d_of carried header_part header_length data_length block_bytes printed_d
d_printed Bits64 true n = omega arith
d_printed Bits64 false n = omega arith
d_printed Bits16 true n = omega arith
d_printed Bits16 false n = omega arith

pub d_nine : (s : BlockSize) (header : Bool) (n : ℕ) → n < 16 → d_of s header n ≤ 9
unfolding d_of carried header_part header_length data_length block_bytes
d_nine Bits64 true n h = omega arith
d_nine Bits64 false n h = omega arith
d_nine Bits16 true n h = omega arith
d_nine Bits16 false n h = omega arith

pub d_one : (s : BlockSize) (header : Bool) (n : ℕ) → 1 ≤ d_of s header n
unfolding d_of carried header_part header_length data_length block_bytes
d_one Bits64 true n = omega arith
d_one Bits64 false n = omega arith
d_one Bits16 true n = omega arith
d_one Bits16 false n = omega arith

-- D at BlockCount i, i + 1, ..: k of them
abbrev row : BlockSize → Bool → ℕ → ℕ → List ℕ
row s header i zero = []
row s header i (suc k) = d_of s header i ∷ row s header (suc i) k

-- the four rows of D, at BlockCount 0 to 15
pub d_rows : (row Bits64 false 0 16 ≡ 1 ∷ 1 ∷ 2 ∷ 2 ∷ 3 ∷ 3 ∷ 4 ∷ 4 ∷ 5 ∷ 5 ∷ 6 ∷ 6 ∷ 7 ∷ 7 ∷ 8 ∷ 8 ∷ [])
    × (row Bits64 true 0 16 ≡ 1 ∷ 2 ∷ 2 ∷ 3 ∷ 3 ∷ 4 ∷ 4 ∷ 5 ∷ 5 ∷ 6 ∷ 6 ∷ 7 ∷ 7 ∷ 8 ∷ 8 ∷ 9 ∷ [])
    × (row Bits16 false 0 16 ≡ 1 ∷ 1 ∷ 1 ∷ 1 ∷ 1 ∷ 1 ∷ 1 ∷ 1 ∷ 2 ∷ 2 ∷ 2 ∷ 2 ∷ 2 ∷ 2 ∷ 2 ∷ 2 ∷ [])
    × (row Bits16 true 0 16 ≡ 1 ∷ 1 ∷ 1 ∷ 1 ∷ 1 ∷ 1 ∷ 2 ∷ 2 ∷ 2 ∷ 2 ∷ 2 ∷ 2 ∷ 2 ∷ 2 ∷ 3 ∷ 3 ∷ [])
unfolding d_of carried header_part header_length data_length block_bytes
d_rows = (refl, refl, refl, refl)

-- room for sums: no length here passes a usize
pub blocks_bound : (s : BlockSize) (header : Bool) (n : ℕ) → blocks_length s header n ≤ 16 * (n + 2)
unfolding blocks_length d_of carried header_part header_length data_length block_bytes
blocks_bound Bits64 true n = omega arith
blocks_bound Bits64 false n = omega arith
blocks_bound Bits16 true n = omega arith
blocks_bound Bits16 false n = omega arith
