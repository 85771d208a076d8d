-- Cipher block chaining over one way of a cipher, `F`, as ISO/IEC 29167-10 3.1.8 to 3.1.11 has it (SP 800-38A, section
-- 6.2, with AES-ENC to encrypt and AES-DEC to decrypt). I1, I2 and so on are the input blocks, O1, O2 and so on the
-- output blocks.
use Rattle.std.specs.Prelude.{ℕ, List, [], ◌∷◌}
use Rattle.field.specs.Block.{xor}
use Rattle.aes.specs.AesEnc.{aes_enc}
use Rattle.modes.specs.Blocks.{whole_blocks, joined}

-- O1 = F (I1 xor IV) and On = F (In xor On-1): each block is chained to the output block before it.
unfoldable pub cbc_enc : (List ℕ → List ℕ) → List ℕ → List (List ℕ) → List (List ℕ)
cbc_enc F iv [] = []
cbc_enc F iv (i ∷ is) = F (xor i iv) ∷ cbc_enc F (F (xor i iv)) is

-- O1 = F (I1) xor IV and On = F (In) xor In-1: each block is chained to the input block before it.
unfoldable pub cbc_dec : (List ℕ → List ℕ) → List ℕ → List (List ℕ) → List (List ℕ)
cbc_dec F iv [] = []
cbc_dec F iv (i ∷ is) = xor (F i) iv ∷ cbc_dec F i is

-- 3.1.8: CBC_ENC_AES (IV, key, data)
unfoldable pub cbc_enc_aes : List ℕ → List ℕ → List ℕ → List ℕ
cbc_enc_aes iv key input = joined (cbc_enc (aes_enc key) iv (whole_blocks input))

-- 3.1.11: CBC_DEC_AES (IV, key, data), which undoes CBC_ENC_AES_INV by encryption
unfoldable pub cbc_dec_aes : List ℕ → List ℕ → List ℕ → List ℕ
cbc_dec_aes iv key input = joined (cbc_dec (aes_enc key) iv (whole_blocks input))
