-- Bytes as blocks of sixteen, one after the other.
use Rattle.std.specs.Prelude.{ℕ, zero, suc, ◌/◌, List, [], ◌∷◌, ◌++◌, length, take, drop}

-- The first n blocks of s.
unfoldable pub blocks : ℕ → List ℕ → List (List ℕ)
blocks zero s = []
blocks (suc n) s = take 16 s ∷ blocks n (drop 16 s)

-- All whole blocks of s.
unfoldable pub whole_blocks : List ℕ → List (List ℕ)
whole_blocks s = blocks (length s / 16) s

-- The bytes of the blocks.
unfoldable pub joined : List (List ℕ) → List ℕ
joined [] = []
joined (b ∷ bs) = b ++ joined bs
