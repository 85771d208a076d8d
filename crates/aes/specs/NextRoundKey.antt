-- Four words of KeyExpansion at once, as the code makes them: a round key from the one before it.
-- `proofs/Schedule.antt` shows that the round keys of FIPS 197,
-- section 5.2, follow one another so.
use Rattle.std.specs.Prelude.{ℕ, ◌+◌, List, ◌++◌, get_or}
use Rattle.aes.specs.KeyExpansion.{word, rot_word, sub_word, xor_word, first_only}

-- Four words as the columns of a round key.
abbrev pub columns : List ℕ → List ℕ → List ℕ → List ℕ → List ℕ
columns k0 k1 k2 k3 = k0 ++ (k1 ++ (k2 ++ k3))

-- Four words at once: each word of the round key k is added to the word before it, and the first to t.
abbrev pub added : List ℕ → List ℕ → List ℕ
added k t =
    let k0 = xor_word (word (λ i. get_or k i 0)) t in
    let k1 = xor_word (word (λ i. get_or k (4 + i) 0)) k0 in
    let k2 = xor_word (word (λ i. get_or k (8 + i) 0)) k1 in
    let k3 = xor_word (word (λ i. get_or k (12 + i) 0)) k2 in
    columns k0 k1 k2 k3

-- The round key that follows the round key k, at the round constant c.
unfoldable pub next_round_key : ℕ → List ℕ → List ℕ
next_round_key c k = added k (xor_word (sub_word (rot_word (word (λ i. get_or k (12 + i) 0)))) (first_only c))
