-- KeyExpansion, FIPS 197 section 5.2, at the four words of an AES-128 key. A word is four bytes.
use Rattle.std.specs.Prelude.{ℕ, zero, suc, ◌+◌, ◌*◌, ◌/◌, ◌%◌, Bool, true, false, List, [], ◌∷◌, eqb, get_or}
use Rattle.std.specs.Int.Bits.{bit_xor}
use Rattle.field.specs.Field.{times}
use Rattle.field.specs.Sbox.{sbox}
use Rattle.field.specs.Block.{tabulated, block}

-- The word whose byte i is f i.
abbrev pub word : (ℕ → ℕ) → List ℕ
word f = tabulated f 4

abbrev pub rot_word : List ℕ → List ℕ
rot_word a = word (λ i. get_or a ((i + 1) % 4) 0)

abbrev pub sub_word : List ℕ → List ℕ
sub_word a = word (λ i. sbox (get_or a i 0))

abbrev pub xor_word : List ℕ → List ℕ → List ℕ
xor_word a b = word (λ i. bit_xor (get_or a i 0) (get_or b i 0))

-- The first byte of Rcon[j], j from 1: x^(j - 1). The other three are 0.
unfoldable pub round_constant : ℕ → ℕ
round_constant zero = 0
round_constant (suc zero) = 1
round_constant (suc (suc j)) = times 2 (round_constant (suc j))

-- A word of which only the first byte is not 0.
abbrev pub first_only : ℕ → List ℕ
first_only c = c ∷ 0 ∷ 0 ∷ 0 ∷ []

abbrev pub rcon : ℕ → List ℕ
rcon j = first_only (round_constant j)

-- What is added to w[i - 4]: w[i - 1], and at each fourth word that word turned, substituted and with Rcon[i / 4]
-- added.
abbrev pub turned : Bool → ℕ → List ℕ → List ℕ
turned true j t = xor_word (sub_word (rot_word t)) (rcon j)
turned false j t = t

-- w[i]
unfoldable pub w : List ℕ → ℕ → List ℕ
w key zero = word (λ i. get_or key i 0)
w key (suc zero) = word (λ i. get_or key (4 + i) 0)
w key (suc (suc zero)) = word (λ i. get_or key (8 + i) 0)
w key (suc (suc (suc zero))) = word (λ i. get_or key (12 + i) 0)
w key (suc (suc (suc (suc i)))) = xor_word (w key i)
    (turned (eqb ((4 + i) % 4) 0) ((4 + i) / 4) (w key (suc (suc (suc i)))))

-- The round key of round n: w[4n] to w[4n + 3], each a column.
unfoldable pub round_key : List ℕ → ℕ → List ℕ
round_key key n = block (λ i. get_or (w key (4 * n + i / 4)) (i % 4) 0)

-- The round keys of the rounds 0 to 10.
unfoldable pub key_expansion : List ℕ → List (List ℕ)
key_expansion key = tabulated (round_key key) 11
