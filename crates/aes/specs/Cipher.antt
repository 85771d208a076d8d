-- Cipher, FIPS 197 section 5.1, at the ten rounds of AES-128.
use Rattle.std.specs.Prelude.{ℕ, zero, suc, ◌+◌, ◌*◌, ◌/◌, ◌%◌, List, [], get_or}
use Rattle.std.specs.Int.Bits.{bit_xor}
use Rattle.field.specs.Field.{times}
use Rattle.field.specs.Sbox.{sbox}
use Rattle.field.specs.Block.{block, xor}

-- 3.4: s[r, c], which is byte r + 4c.
abbrev pub at : List ℕ → ℕ → ℕ → ℕ
at s r c = get_or s (r + 4 * c) 0

-- The state whose byte at row r and column c is f r c.
abbrev pub state : (ℕ → ℕ → ℕ) → List ℕ
state f = block (λ i. f (i % 4) (i / 4))

-- 5.1.1
unfoldable pub sub_bytes : List ℕ → List ℕ
sub_bytes s = block (λ i. sbox (get_or s i 0))

-- 5.1.2: row r is turned to the left by r places.
unfoldable pub shift_rows : List ℕ → List ℕ
shift_rows s = state (λ r c. at s r ((c + r) % 4))

-- 5.1.3: four bytes of a column, the first times 2, the second times 3, added up.
abbrev pub mixed : ℕ → ℕ → ℕ → ℕ → ℕ
mixed a b c d = bit_xor (bit_xor (times 2 a) (times 3 b)) (bit_xor c d)

-- They are taken from row r downwards.
unfoldable pub mixed_byte : List ℕ → ℕ → ℕ → ℕ
mixed_byte s r c = mixed (at s r c) (at s ((r + 1) % 4) c) (at s ((r + 2) % 4) c) (at s ((r + 3) % 4) c)

unfoldable pub mix_columns : List ℕ → List ℕ
mix_columns s = state (mixed_byte s)

-- 5.1.4: the round key's four words are its four columns.
abbrev pub add_round_key : List ℕ → List ℕ → List ℕ
add_round_key s k = xor s k

-- The state after the rounds 1 to n, of which none is the last; `keys` has the round key of each round.
unfoldable pub rounds : List (List ℕ) → List ℕ → ℕ → List ℕ
rounds keys s zero = s
rounds keys s (suc n) = add_round_key (mix_columns (shift_rows (sub_bytes (rounds keys s n)))) (get_or keys (suc n) [])

-- 5.1: a key is added, nine rounds, and a last one without MixColumns.
unfoldable pub cipher : List (List ℕ) → List ℕ → List ℕ
cipher keys s =
    add_round_key (shift_rows (sub_bytes (rounds keys (add_round_key s (get_or keys 0 [])) 9))) (get_or keys 10 [])
