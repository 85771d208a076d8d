-- Each DEC form of chaining undoes its ENC form, on every key, initialization vector and whole number of blocks; and
-- the results of the forms over AES-DEC are bytes, as many as came in.
use mathlib.Core.Path.{◌≡◌, ◌∙◌}
use mathlib.Core.List.{List}
use Prim.Native.Nat.{ℕ, ◌%◌}
use native.Mathlib.Omega.{arith}
use lib.ListN.{length}
use Rattle.ground.specs.Bytes.{Bytes}
use Rattle.field.proofs.Block.{Block}
use Rattle.aes.specs.AesEnc.{aes_enc}
use Rattle.aes.proofs.Forward.{enc_block}
use Rattle.aes_inverse.specs.AesDec.{aes_dec}
use Rattle.aes_inverse.proofs.Inverse.{dec_block, dec_enc, enc_dec}
use Rattle.modes.specs.Cbc.{cbc_enc_aes, cbc_dec_aes}
use Rattle.modes.proofs.Undone.{enc_bytes, dec_bytes, enc_length, dec_length, chain_undone}
use Rattle.modes_inverse.specs.CbcInv.{cbc_dec_aes_inv, cbc_enc_aes_inv}

module _ (iv key s : List ℕ) (v : Bytes iv) (k : Bytes key) (h : Bytes s) where
  forward : (b : List ℕ) → Block b → Block (aes_enc key b)
  forward b = enc_block key b k

  backward : (b : List ℕ) → Block b → Block (aes_dec key b)
  backward b = dec_block key b k

  pub dec_inv_undoes_enc : length s % 16 ≡ 0 → cbc_dec_aes_inv iv key (cbc_enc_aes iv key s) ≡ s
  unfolding cbc_dec_aes_inv cbc_enc_aes
  dec_inv_undoes_enc e = chain_undone (aes_enc key) (aes_dec key) forward (λ b hb. dec_enc key b k hb) iv s v h e

  pub dec_undoes_enc_inv : length s % 16 ≡ 0 → cbc_dec_aes iv key (cbc_enc_aes_inv iv key s) ≡ s
  unfolding cbc_dec_aes cbc_enc_aes_inv
  dec_undoes_enc_inv e = chain_undone (aes_dec key) (aes_enc key) backward (λ b hb. enc_dec key b k hb) iv s v h e

  pub cbc_dec_aes_inv_bytes : Bytes (cbc_dec_aes_inv iv key s)
  unfolding cbc_dec_aes_inv
  cbc_dec_aes_inv_bytes = dec_bytes (aes_dec key) backward iv s v h

  pub cbc_enc_aes_inv_bytes : Bytes (cbc_enc_aes_inv iv key s)
  unfolding cbc_enc_aes_inv
  cbc_enc_aes_inv_bytes = enc_bytes (aes_dec key) backward iv s v h

  pub cbc_dec_aes_inv_length : length s % 16 ≡ 0 → length (cbc_dec_aes_inv iv key s) ≡ length s
  unfolding cbc_dec_aes_inv
  cbc_dec_aes_inv_length e = dec_length (aes_dec key) backward iv s v h ∙ omega arith

  pub cbc_enc_aes_inv_length : length s % 16 ≡ 0 → length (cbc_enc_aes_inv iv key s) ≡ length s
  unfolding cbc_enc_aes_inv
  cbc_enc_aes_inv_length e = enc_length (aes_dec key) backward iv s v h ∙ omega arith
