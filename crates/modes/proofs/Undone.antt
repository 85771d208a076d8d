-- A DEC form of chaining undoes the ENC form over the other way of the cipher: one theorem for the two pairs of ISO/IEC
-- 29167-10 3.1.8 to 3.1.11.
use mathlib.Core.Path.{◌≡◌, refl, ap, ap₂, ◌∙◌}
use mathlib.Core.List.{List, [], ◌∷◌}
use Prim.Native.Nat.{ℕ, suc, ◌*◌, ◌/◌, ◌%◌}
use lib.ListN.{length}
use Rattle.ground.specs.Bytes.{Bytes}
use Rattle.field.specs.Block.{xor}
use Rattle.field.proofs.Block.{Block, xor_is_block, xor_undone}
use Rattle.modes.specs.Blocks.{whole_blocks, joined}
use Rattle.modes.specs.Cbc.{cbc_enc, cbc_dec}
use Rattle.modes.proofs.Whole.{
  Blocks,
  whole_are,
  joined_whole,
  whole_joined,
  joined_bytes,
  joined_length,
  whole_count,
}

-- F makes blocks of blocks
abbrev pub Keeps : (List ℕ → List ℕ) → Type 0
Keeps F = (s : List ℕ) → Block s → Block (F s)

module _ (F : List ℕ → List ℕ) (f : Keeps F) where
  enc_blocks : (bs : List (List ℕ)) (iv : List ℕ) → Bytes iv → Blocks bs → Blocks (cbc_enc F iv bs)
  unfolding cbc_enc
  enc_blocks [] iv v h = tt
  enc_blocks (b ∷ bs) iv v (hb, h) =
      let o = f (xor b iv) (xor_is_block b iv hb.bytes v) in
      (o, enc_blocks bs (F (xor b iv)) o.bytes h)

  dec_blocks : (bs : List (List ℕ)) (iv : List ℕ) → Bytes iv → Blocks bs → Blocks (cbc_dec F iv bs)
  unfolding cbc_dec
  dec_blocks [] iv v h = tt
  dec_blocks (b ∷ bs) iv v (hb, h) = (xor_is_block (F b) iv (f b hb).bytes v, dec_blocks bs b hb.bytes h)

  enc_count : (bs : List (List ℕ)) (iv : List ℕ) → length (cbc_enc F iv bs) ≡ length bs
  unfolding cbc_enc
  enc_count [] iv = refl
  enc_count (b ∷ bs) iv = ap suc (enc_count bs (F (xor b iv)))

  dec_count : (bs : List (List ℕ)) (iv : List ℕ) → length (cbc_dec F iv bs) ≡ length bs
  unfolding cbc_dec
  dec_count [] iv = refl
  dec_count (b ∷ bs) iv = ap suc (dec_count bs b)

  module _ (iv s : List ℕ) (v : Bytes iv) (h : Bytes s) where
    -- the results are bytes, as many as there are in whole blocks
    pub enc_bytes : Bytes (joined (cbc_enc F iv (whole_blocks s)))
    enc_bytes = joined_bytes (cbc_enc F iv (whole_blocks s)) (enc_blocks (whole_blocks s) iv v (whole_are s h))

    pub dec_bytes : Bytes (joined (cbc_dec F iv (whole_blocks s)))
    dec_bytes = joined_bytes (cbc_dec F iv (whole_blocks s)) (dec_blocks (whole_blocks s) iv v (whole_are s h))

    pub enc_length : length (joined (cbc_enc F iv (whole_blocks s))) ≡ length s / 16 * 16
    enc_length =
        joined_length (cbc_enc F iv (whole_blocks s)) (enc_blocks (whole_blocks s) iv v (whole_are s h))
        ∙ ap (λ (n : ℕ). n * 16) (enc_count (whole_blocks s) iv ∙ whole_count s)

    pub dec_length : length (joined (cbc_dec F iv (whole_blocks s))) ≡ length s / 16 * 16
    dec_length =
        joined_length (cbc_dec F iv (whole_blocks s)) (dec_blocks (whole_blocks s) iv v (whole_are s h))
        ∙ ap (λ (n : ℕ). n * 16) (dec_count (whole_blocks s) iv ∙ whole_count s)

-- G undoes F on blocks
module _ (F G : List ℕ → List ℕ) (f : Keeps F) (undoes : (s : List ℕ) → Block s → G (F s) ≡ s) where
  blocks_undone : (bs : List (List ℕ)) (iv : List ℕ) → Bytes iv → Blocks bs → cbc_dec G iv (cbc_enc F iv bs) ≡ bs
  unfolding cbc_dec cbc_enc
  blocks_undone [] iv v h = refl
  blocks_undone (b ∷ bs) iv v (hb, h) =
      let x = xor_is_block b iv hb.bytes v in
      ap₂ {C = List (List ℕ)} (λ y ys. y ∷ ys)
      (ap (λ (y : List ℕ). xor y iv) (undoes (xor b iv) x) ∙ xor_undone b iv hb.sixteen)
      (blocks_undone bs (F (xor b iv)) (f (xor b iv) x).bytes h)

  pub chain_undone : (iv s : List ℕ) → Bytes iv → Bytes s → length s % 16 ≡ 0
      → joined (cbc_dec G iv (whole_blocks (joined (cbc_enc F iv (whole_blocks s))))) ≡ s
  chain_undone iv s v h e =
      ap (λ (bs : List (List ℕ)). joined (cbc_dec G iv bs))
      (whole_joined (cbc_enc F iv (whole_blocks s)) (enc_blocks F f (whole_blocks s) iv v (whole_are s h)))
      ∙ ap joined (blocks_undone (whole_blocks s) iv v (whole_are s h))
      ∙ joined_whole s e
