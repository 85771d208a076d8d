-- The results of the forms over AES-ENC are bytes, as many as came in.
use mathlib.Core.Path.{◌≡◌, ◌∙◌}
use mathlib.Core.List.{List}
use Prim.Native.Nat.{ℕ, ◌%◌}
use native.Mathlib.Omega.{arith}
use lib.ListN.{length}
use Rattle.ground.specs.Bytes.{Bytes}
use Rattle.field.proofs.Block.{Block}
use Rattle.aes.specs.AesEnc.{aes_enc}
use Rattle.aes.proofs.Forward.{enc_block}
use Rattle.modes.specs.Cbc.{cbc_enc_aes, cbc_dec_aes}
use Rattle.modes.proofs.Undone.{enc_bytes, dec_bytes, enc_length, dec_length}

module _ (iv key s : List ℕ) (v : Bytes iv) (k : Bytes key) (h : Bytes s) where
  forward : (b : List ℕ) → Block b → Block (aes_enc key b)
  forward b = enc_block key b k

  pub cbc_enc_aes_bytes : Bytes (cbc_enc_aes iv key s)
  unfolding cbc_enc_aes
  cbc_enc_aes_bytes = enc_bytes (aes_enc key) forward iv s v h

  pub cbc_dec_aes_bytes : Bytes (cbc_dec_aes iv key s)
  unfolding cbc_dec_aes
  cbc_dec_aes_bytes = dec_bytes (aes_enc key) forward iv s v h

  pub cbc_enc_aes_length : length s % 16 ≡ 0 → length (cbc_enc_aes iv key s) ≡ length s
  unfolding cbc_enc_aes
  cbc_enc_aes_length e = enc_length (aes_enc key) forward iv s v h ∙ omega arith

  pub cbc_dec_aes_length : length s % 16 ≡ 0 → length (cbc_dec_aes iv key s) ≡ length s
  unfolding cbc_dec_aes
  cbc_dec_aes_length e = dec_length (aes_enc key) forward iv s v h ∙ omega arith
