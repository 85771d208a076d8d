-- `inverse` is the inverse of the field: a byte, whose product with b is 1; and that of 0 is 0. And what follows of the
-- S-box.
use mathlib.Core.Path.{◌≡◌, refl, sym, ap, ◌∙◌}
use Prim.Native.Nat.{ℕ, ◌/◌, ◌<◌, min}
use native.Mathlib.Omega.{arith}
use lib.ListN.{get_or}
use Rattle.field.specs.Field.{inverse, times, remainder, polynomial_product}
use Rattle.field.specs.Sbox.{sbox, sbox_table, affine, affine_bit, from_bits}
use Rattle.field.specs.Block.{tabulated}
use Rattle.field.proofs.Table.{same_at, same_table, entry_at}
use Rattle.field.proofs.Inverses.{inverses, inverse_is}

-- three tests over the entries: the product with the byte is 1, or 0 for 0; each is a byte; and its entry is the byte
-- again
right_test : (b : ℕ) → b < 256 → times b (get_or inverses b 0) ≡ min b 1
unfolding inverses times remainder polynomial_product
right_test = same_at (λ b. times b (get_or inverses b 0)) (λ b. min b 1) 256 refl

byte_test : (b : ℕ) → b < 256 → get_or inverses b 0 / 256 ≡ 0
unfolding inverses
byte_test = same_at (λ b. get_or inverses b 0 / 256) (λ b. 0) 256 refl

twice_test : (b : ℕ) → b < 256 → get_or inverses (get_or inverses b 0) 0 ≡ b
unfolding inverses
twice_test = same_at (λ b. get_or inverses (get_or inverses b 0) 0) (λ b. b) 256 refl

pub inverse_byte : (b : ℕ) → b < 256 → inverse b < 256
inverse_byte b h = omega (arith, inverse_is b h, byte_test b h)

-- the product with the inverse is 1, and 0 for 0
pub inverse_right : (b : ℕ) → b < 256 → times b (inverse b) ≡ min b 1
inverse_right b h = ap (times b) (inverse_is b h) ∙ right_test b h

pub inverse_zero : inverse 0 ≡ 0
unfolding inverses
inverse_zero = inverse_is 0 (omega arith)

pub inverse_twice : (b : ℕ) → b < 256 → inverse (inverse b) ≡ b
inverse_twice b h = inverse_is (inverse b) (inverse_byte b h) ∙ ap (λ (x : ℕ). get_or inverses x 0) (inverse_is b h)
    ∙ twice_test b h

affine_byte : (b : ℕ) → b < 256 → affine b / 256 ≡ 0
unfolding affine affine_bit from_bits
affine_byte = same_at (λ b. affine b / 256) (λ b. 0) 256 refl

pub sbox_byte : (b : ℕ) → b < 256 → sbox b < 256
unfolding sbox
sbox_byte b h = omega (arith, affine_byte (inverse b) (inverse_byte b h))

-- an entry of the S-box's table is the S-box
pub sbox_entry : (b : ℕ) → b < 256 → get_or sbox_table b 0 ≡ sbox b
unfolding sbox_table
sbox_entry b h = entry_at 0 sbox 256 b h

-- the whole table, from the inverses
pub sbox_listed : tabulated (λ b. affine (get_or inverses b 0)) 256 ≡ sbox_table
unfolding sbox_table sbox
sbox_listed = same_table (λ b. affine (get_or inverses b 0)) sbox 256 (λ b h. ap affine (sym (inverse_is b h)))
