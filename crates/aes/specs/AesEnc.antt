-- AES-ENC (key, data), ISO/IEC 29167-10 3.1.3: Cipher of FIPS 197 under an AES-128 key.
use Rattle.std.specs.Prelude.{ℕ, List}
use Rattle.aes.specs.Cipher.{cipher}
use Rattle.aes.specs.KeyExpansion.{key_expansion}

unfoldable pub aes_enc : List ℕ → List ℕ → List ℕ
aes_enc key input = cipher (key_expansion key) input
