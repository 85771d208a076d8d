-- InvCipher, FIPS 197 section 5.3, at the ten rounds of AES-128.
use Rattle.std.specs.Prelude.{ℕ, zero, suc, ◌+◌, ◌-◌, ◌%◌, List, [], get_or}
use Rattle.std.specs.Int.Bits.{bit_xor}
use Rattle.field.specs.Field.{times}
use Rattle.field.specs.Block.{block}
use Rattle.aes.specs.Cipher.{at, state, add_round_key}
use Rattle.aes_inverse.specs.InvSbox.{inv_sbox}

-- 5.3.1: row r is turned to the right by r places.
unfoldable pub inv_shift_rows : List ℕ → List ℕ
inv_shift_rows s = state (λ r c. at s r ((c + (4 - r)) % 4))

-- 5.3.2
unfoldable pub inv_sub_bytes : List ℕ → List ℕ
inv_sub_bytes s = block (λ i. inv_sbox (get_or s i 0))

-- 5.3.3: four bytes of a column, times 0e, 0b, 0d and 09, added up.
abbrev pub unmixed : ℕ → ℕ → ℕ → ℕ → ℕ
unmixed a b c d = bit_xor (bit_xor (times 0x0E a) (times 0x0B b)) (bit_xor (times 0x0D c) (times 0x09 d))

-- They are taken from row r downwards.
unfoldable pub unmixed_byte : List ℕ → ℕ → ℕ → ℕ
unmixed_byte s r c = unmixed (at s r c) (at s ((r + 1) % 4) c) (at s ((r + 2) % 4) c) (at s ((r + 3) % 4) c)

unfoldable pub inv_mix_columns : List ℕ → List ℕ
inv_mix_columns s = state (unmixed_byte s)

-- The rounds n down to 1; `keys` has the round key of each round.
unfoldable pub inv_rounds : List (List ℕ) → ℕ → List ℕ → List ℕ
inv_rounds keys zero s = s
inv_rounds keys (suc n) s = inv_rounds keys n (inv_mix_columns
    (add_round_key (inv_sub_bytes (inv_shift_rows s)) (get_or keys (suc n) [])))

-- 5.3: the last round key is added, nine rounds, and a last one without InvMixColumns.
unfoldable pub inv_cipher : List (List ℕ) → List ℕ → List ℕ
inv_cipher keys s =
    add_round_key (inv_sub_bytes (inv_shift_rows (inv_rounds keys 9 (add_round_key s (get_or keys 10 [])))))
    (get_or keys 0 [])
