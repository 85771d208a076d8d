-- The ENC form of chaining undoes the DEC form over the other way of the cipher, so that a chain that was opened can be
-- made again.
use mathlib.Core.Path.{◌≡◌, refl, ap, ap₂, ◌∙◌}
use mathlib.Core.List.{List, [], ◌∷◌}
use Prim.Native.Nat.{ℕ, ◌%◌}
use lib.ListN.{length}
use Rattle.ground.specs.Bytes.{Bytes}
use Rattle.field.specs.Block.{xor}
use Rattle.field.proofs.Block.{Block, xor_is_block, xor_undone}
use Rattle.aes.specs.AesEnc.{aes_enc}
use Rattle.aes_inverse.specs.AesDec.{aes_dec}
use Rattle.aes_inverse.proofs.Inverse.{enc_dec, dec_block}
use Rattle.modes.specs.Blocks.{whole_blocks, joined}
use Rattle.modes.specs.Cbc.{cbc_enc, cbc_dec, cbc_enc_aes}
use Rattle.modes.proofs.Whole.{Blocks, whole_are, joined_whole, whole_joined}
use Rattle.modes.proofs.Undone.{Keeps}
use Rattle.modes_inverse.specs.CbcInv.{cbc_dec_aes_inv}

-- F undoes G on blocks
module _ (F G : List ℕ → List ℕ) (g : Keeps G) (undoes : (s : List ℕ) → Block s → F (G s) ≡ s) where
  opened_blocks : (bs : List (List ℕ)) (iv : List ℕ) → Bytes iv → Blocks bs → Blocks (cbc_dec G iv bs)
  unfolding cbc_dec
  opened_blocks [] iv v h = tt
  opened_blocks (b ∷ bs) iv v (hb, h) = (xor_is_block (G b) iv (g b hb).bytes v, opened_blocks bs b hb.bytes h)

  -- one block: what was opened and taken apart from the chain goes back into it
  again : (b iv : List ℕ) → Block b → F (xor (xor (G b) iv) iv) ≡ b
  again b iv hb = ap F (xor_undone (G b) iv (g b hb).sixteen) ∙ undoes b hb

  blocks_again : (bs : List (List ℕ)) (iv : List ℕ) → Blocks bs → cbc_enc F iv (cbc_dec G iv bs) ≡ bs
  unfolding cbc_dec cbc_enc
  blocks_again [] iv h = refl
  blocks_again (b ∷ bs) iv (hb, h) =
      let e = again b iv hb in
      ap₂ {C = List (List ℕ)} (λ y ys. y ∷ ys) e (ap (λ (c : List ℕ). cbc_enc F c (cbc_dec G b bs)) e
      ∙ blocks_again bs b h)

-- CBC_ENC_AES makes again what CBC_DEC_AES_INV opened
pub enc_undoes_dec_inv : (iv key s : List ℕ) → Bytes iv → Bytes key → Bytes s → length s % 16 ≡ 0
    → cbc_enc_aes iv key (cbc_dec_aes_inv iv key s) ≡ s
unfolding cbc_enc_aes cbc_dec_aes_inv
enc_undoes_dec_inv iv key s v k h e =
    let open-all = opened_blocks (aes_enc key) (aes_dec key) (λ b hb. dec_block key b k hb) (λ b hb. enc_dec key b k hb)
    in
    ap (λ (bs : List (List ℕ)). joined (cbc_enc (aes_enc key) iv bs))
    (whole_joined (cbc_dec (aes_dec key) iv (whole_blocks s)) (open-all (whole_blocks s) iv v (whole_are s h)))
    ∙ ap joined (blocks_again (aes_enc key) (aes_dec key) (λ b hb. dec_block key b k hb) (λ b hb. enc_dec key b k hb)
    (whole_blocks s) iv (whole_are s h))
    ∙ joined_whole s e
