-- The inverse S-box, FIPS 197 section 5.3.2: the inverse of the affine map, and then the inverse in the field.
use Rattle.std.specs.Prelude.{ℕ, ◌+◌, ◌%◌, List}
use Rattle.ground.specs.Bytes.{bit}
use Rattle.field.specs.Field.{inverse}
use Rattle.field.specs.Sbox.{from_bits}
use Rattle.field.specs.Block.{tabulated}

-- Bit i of the inverse affine map: the sum of three bits of b and of bit i of 0x05. `proofs/InverseSbox.antt` shows
-- that it undoes the affine map.
unfoldable pub inv_affine_bit : ℕ → ℕ → ℕ
inv_affine_bit b i = (bit b ((i + 2) % 8) + bit b ((i + 5) % 8) + bit b ((i + 7) % 8) + bit 0x05 i) % 2

unfoldable pub inv_affine : ℕ → ℕ
inv_affine b = from_bits (inv_affine_bit b) 0 8

unfoldable pub inv_sbox : ℕ → ℕ
inv_sbox b = inverse (inv_affine b)

-- The whole inverse S-box, entry after entry.
unfoldable pub inv_sbox_table : List ℕ
inv_sbox_table = tabulated inv_sbox 256
