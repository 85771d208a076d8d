-- The S-box, FIPS 197 section 5.1.1.
use Rattle.std.specs.Prelude.{ℕ, zero, suc, ◌+◌, ◌*◌, ◌%◌, ◌^◌, List}
use Rattle.ground.specs.Bytes.{bit}
use Rattle.field.specs.Field.{inverse}
use Rattle.field.specs.Block.{tabulated}

-- The number whose bits i, i + 1 and so on, n of them, are those of f, the others being 0.
unfoldable pub from_bits : (ℕ → ℕ) → ℕ → ℕ → ℕ
from_bits f i zero = 0
from_bits f i (suc n) = f i * 2 ^ i + from_bits f (suc i) n

-- Bit i of the affine map: the sum of five bits of b and of bit i of 0x63.
unfoldable pub affine_bit : ℕ → ℕ → ℕ
affine_bit b i = (bit b i + bit b ((i + 4) % 8) + bit b ((i + 5) % 8) + bit b ((i + 6) % 8) + bit b
    ((i + 7) % 8) + bit 0x63 i) % 2

unfoldable pub affine : ℕ → ℕ
affine b = from_bits (affine_bit b) 0 8

-- The S-box: the affine map of the inverse.
unfoldable pub sbox : ℕ → ℕ
sbox b = affine (inverse b)

-- The whole S-box, entry after entry.
unfoldable pub sbox_table : List ℕ
sbox_table = tabulated sbox 256
