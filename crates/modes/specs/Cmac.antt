-- CMAC, NIST SP 800-38B, over AES-128, for input that is whole blocks, at least one: the last block is complete, so
-- that K1 is added to it and K2 is never used (ISO/IEC 29167-10 3.1.13).
use Rattle.std.specs.Prelude.{ℕ, ◌+◌, ◌*◌, ◌/◌, ◌%◌, List, [], ◌∷◌, get_or, take}
use Rattle.field.specs.Block.{block, xor}
use Rattle.aes.specs.AesEnc.{aes_enc}
use Rattle.modes.specs.Blocks.{whole_blocks}

-- The block of 0 but for its last byte.
abbrev pub last_byte : ℕ → List ℕ
last_byte b = 0 ∷ 0 ∷ 0 ∷ 0 ∷ 0 ∷ 0 ∷ 0 ∷ 0 ∷ 0 ∷ 0 ∷ 0 ∷ 0 ∷ 0 ∷ 0 ∷ 0 ∷ b ∷ []

-- A block shifted to the left by one bit; the bit that falls out on the left is dropped.
unfoldable pub shifted_left : List ℕ → List ℕ
shifted_left l = block (λ i. get_or l i 0 * 2 % 256 + get_or l (i + 1) 0 / 128)

-- 6.1, step 2: the doubling. Where the highest bit is 1, R_128 (5.3) is added, which is 0x87 in the last byte.
unfoldable pub doubled : List ℕ → List ℕ
doubled l = xor (shifted_left l) (last_byte (get_or l 0 0 / 128 * 0x87))

-- 6.1: the first subkey, from the encryption of the block of 0.
unfoldable pub subkey1 : List ℕ → List ℕ
subkey1 key = doubled (aes_enc key (last_byte 0))

-- 6.2, step 4: K1 is added to the last block, and the others stay.
unfoldable pub masked : List ℕ → List (List ℕ) → List (List ℕ)
masked k1 [] = []
masked k1 (m ∷ []) = xor k1 m ∷ []
masked k1 (m ∷ n ∷ ms) = m ∷ masked k1 (n ∷ ms)

-- 6.2, steps 5 and 6: Ci is the encryption of Ci-1 xor Mi; the last of them is the result.
unfoldable pub mac_chain : List ℕ → List ℕ → List (List ℕ) → List ℕ
mac_chain key c [] = c
mac_chain key c (m ∷ ms) = mac_chain key (aes_enc key (xor c m)) ms

unfoldable pub cmac : List ℕ → List ℕ → List ℕ
cmac key input = mac_chain key (last_byte 0) (masked (subkey1 key) (whole_blocks input))

-- The bytes of a truncated MAC: 96 bits.
abbrev pub mac_bytes : ℕ
mac_bytes = 12

-- 29167-10 3.1.1: AES-CMAC-96 (key, data), the first 96 bits of the CMAC.
unfoldable pub cmac96 : List ℕ → List ℕ → List ℕ
cmac96 key input = take mac_bytes (cmac key input)
