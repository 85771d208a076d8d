-- A form of chaining, block by block: `out` is the output block, of what the input block is chained to and of itself,
-- and `on` what it hands on, to which the next block is chained.
use Rattle.std.specs.Prelude.{◌≡◌, refl, ℕ, List, [], ◌∷◌, length}
use Rattle.field.specs.Block.{xor}
use Rattle.aes.specs.Cipher.{cipher}
use Rattle.aes.specs.AesEnc.{aes_enc}

-- The output blocks of the blocks.
unfoldable pub outputs : (List ℕ → List ℕ → List ℕ) → (List ℕ → List ℕ → List ℕ) → List ℕ → List (List ℕ)
    → List (List ℕ)
outputs out on iv [] = []
outputs out on iv (b ∷ bs) = out iv b ∷ outputs out on (on iv b) bs

-- What the chain over the blocks hands on.
unfoldable pub handed : (List ℕ → List ℕ → List ℕ) → List ℕ → List (List ℕ) → List ℕ
handed on iv [] = iv
handed on iv (b ∷ bs) = handed on (on iv b) bs

-- The output block of CBC's encryption and of its decryption by one way of a cipher, `way`, under a key.
abbrev pub enc_out : (List ℕ → List ℕ → List ℕ) → List ℕ → List ℕ → List ℕ → List ℕ
enc_out way key iv b = way key (xor b iv)

abbrev pub dec_out : (List ℕ → List ℕ → List ℕ) → List ℕ → List ℕ → List ℕ → List ℕ
dec_out way key iv b = xor (way key b) iv

-- Either has sixteen bytes.
pub aes_enc_sixteen : (key b : List ℕ) → length (aes_enc key b) ≡ 16
unfolding aes_enc cipher xor
aes_enc_sixteen key b = refl

pub xor_sixteen : (a b : List ℕ) → length (xor a b) ≡ 16
unfolding xor
xor_sixteen a b = refl
