-- The inverse S-box undoes the S-box, and the S-box the inverse S-box, at every byte.
use mathlib.Core.Path.{◌≡◌, refl, sym, ap, ◌∙◌}
use Prim.Native.Nat.{ℕ, ◌/◌, ◌<◌}
use native.Mathlib.Omega.{arith}
use lib.ListN.{get_or}
use Rattle.field.specs.Field.{inverse}
use Rattle.field.specs.Sbox.{sbox, sbox_table, affine, affine_bit, from_bits}
use Rattle.field.specs.Block.{tabulated}
use Rattle.field.proofs.Table.{same_at, same_table, entry_at}
use Rattle.field.proofs.Inverses.{inverses, inverse_is}
use Rattle.field.proofs.Inverse.{inverse_byte, inverse_twice, sbox_byte, sbox_entry}
use Rattle.aes_inverse.specs.InvSbox.{inv_affine, inv_affine_bit, inv_sbox, inv_sbox_table}

inv_affine_affine : (b : ℕ) → b < 256 → inv_affine (affine b) ≡ b
unfolding inv_affine inv_affine_bit affine affine_bit from_bits
inv_affine_affine = same_at (λ b. inv_affine (affine b)) (λ b. b) 256 refl

affine_inv_affine : (b : ℕ) → b < 256 → affine (inv_affine b) ≡ b
unfolding inv_affine inv_affine_bit affine affine_bit from_bits
affine_inv_affine = same_at (λ b. affine (inv_affine b)) (λ b. b) 256 refl

inv_affine_small : (b : ℕ) → b < 256 → inv_affine b / 256 ≡ 0
unfolding inv_affine inv_affine_bit from_bits
inv_affine_small = same_at (λ b. inv_affine b / 256) (λ b. 0) 256 refl

inv_affine_byte : (b : ℕ) → b < 256 → inv_affine b < 256
inv_affine_byte b h = omega (arith, inv_affine_small b h)

pub inv_sbox_byte : (b : ℕ) → b < 256 → inv_sbox b < 256
unfolding inv_sbox
inv_sbox_byte b h = inverse_byte (inv_affine b) (inv_affine_byte b h)

-- the whole table, from the inverses
pub inverse_listed : tabulated (λ b. get_or inverses (inv_affine b) 0) 256 ≡ inv_sbox_table
unfolding inv_sbox_table inv_sbox
inverse_listed = same_table (λ b. get_or inverses (inv_affine b) 0) inv_sbox 256
    (λ b h. sym (inverse_is (inv_affine b) (inv_affine_byte b h)))

pub inv_sbox_sbox : (b : ℕ) → b < 256 → inv_sbox (sbox b) ≡ b
unfolding inv_sbox sbox
inv_sbox_sbox b h = ap inverse (inv_affine_affine (inverse b) (inverse_byte b h)) ∙ inverse_twice b h

pub sbox_inv_sbox : (b : ℕ) → b < 256 → sbox (inv_sbox b) ≡ b
unfolding inv_sbox sbox
sbox_inv_sbox b h = ap affine (inverse_twice (inv_affine b) (inv_affine_byte b h)) ∙ affine_inv_affine b h

-- the same of the two tables: the second undoes the first, and the first the second
inverse_entry : (b : ℕ) → b < 256 → get_or inv_sbox_table b 0 ≡ inv_sbox b
unfolding inv_sbox_table
inverse_entry b h = entry_at 0 inv_sbox 256 b h

pub tables_back : (b : ℕ) → b < 256 → get_or inv_sbox_table (get_or sbox_table b 0) 0 ≡ b
tables_back b h = ap (λ (x : ℕ). get_or inv_sbox_table x 0) (sbox_entry b h) ∙ inverse_entry (sbox b) (sbox_byte b h)
    ∙ inv_sbox_sbox b h

pub tables_forth : (b : ℕ) → b < 256 → get_or sbox_table (get_or inv_sbox_table b 0) 0 ≡ b
tables_forth b h =
    ap (λ (x : ℕ). get_or sbox_table x 0) (inverse_entry b h) ∙ sbox_entry (inv_sbox b) (inv_sbox_byte b h)
    ∙ sbox_inv_sbox b h
