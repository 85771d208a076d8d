-- The two forms of chaining over AES-DEC, ISO/IEC 29167-10 3.1.9 and 3.1.10. They differ from those over AES-ENC in the
-- way of the cipher alone.
use Rattle.std.specs.Prelude.{◌≡◌, refl, ℕ, List, length}
use Rattle.field.specs.Block.{xor}
use Rattle.aes_inverse.specs.InvCipher.{inv_cipher}
use Rattle.aes_inverse.specs.AesDec.{aes_dec}
use Rattle.modes.specs.Blocks.{whole_blocks, joined}
use Rattle.modes.specs.Cbc.{cbc_enc, cbc_dec}

-- 3.1.9: CBC_DEC_AES_INV (IV, key, data), the CBC decryption of SP 800-38A
unfoldable pub cbc_dec_aes_inv : List ℕ → List ℕ → List ℕ → List ℕ
cbc_dec_aes_inv iv key input = joined (cbc_dec (aes_dec key) iv (whole_blocks input))

-- 3.1.10: CBC_ENC_AES_INV (IV, key, data), by which the reader encrypts for a tag that can only encrypt
unfoldable pub cbc_enc_aes_inv : List ℕ → List ℕ → List ℕ → List ℕ
cbc_enc_aes_inv iv key input = joined (cbc_enc (aes_dec key) iv (whole_blocks input))

-- AES-DEC of anything has sixteen bytes.
pub aes_dec_sixteen : (key b : List ℕ) → length (aes_dec key b) ≡ 16
unfolding aes_dec inv_cipher xor
aes_dec_sixteen key b = refl
