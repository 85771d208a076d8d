-- A block of sixteen bytes: the state of FIPS 197 section 3.4, byte r + 4c at row r and column c, and a block of the
-- modes.
use Rattle.std.specs.Prelude.{ℕ, zero, suc, List, [], ◌∷◌, get_or}
use Rattle.std.specs.Int.Bits.{bit_xor}

-- f i, f (i + 1) and so on: n of them.
abbrev pub tabulated_from : {A : Type 0} → (ℕ → A) → ℕ → ℕ → List A
tabulated_from f i zero = []
tabulated_from f i (suc n) = f i ∷ tabulated_from f (suc i) n

-- f 0, f 1 and so on: n of them.
abbrev pub tabulated : {A : Type 0} → (ℕ → A) → ℕ → List A
tabulated f n = tabulated_from f 0 n

-- The block whose byte i is f i.
abbrev pub block : (ℕ → ℕ) → List ℕ
block f = tabulated f 16

-- The first sixteen bytes of s; past the end of s stands 0.
unfoldable pub first_block : List ℕ → List ℕ
first_block s = block (λ i. get_or s i 0)

-- The exclusive or of two blocks, byte by byte.
unfoldable pub xor : List ℕ → List ℕ → List ℕ
xor a b = block (λ i. bit_xor (get_or a i 0) (get_or b i 0))

-- Each byte of s through a table.
unfoldable pub substituted : List ℕ → List ℕ → List ℕ
substituted table s = block (λ i. get_or table (get_or s i 0) 0)
