-- AES-DEC (key, data), ISO/IEC 29167-10 3.1.2: InvCipher of FIPS 197 under an AES-128 key.
use Rattle.std.specs.Prelude.{ℕ, List}
use Rattle.aes.specs.KeyExpansion.{key_expansion}
use Rattle.aes_inverse.specs.InvCipher.{inv_cipher}

unfoldable pub aes_dec : List ℕ → List ℕ → List ℕ
aes_dec key input = inv_cipher (key_expansion key) input
