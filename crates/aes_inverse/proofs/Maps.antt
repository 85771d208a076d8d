-- What each map of InvCipher makes of bytes is a block of bytes; and each map of the one cipher is undone by that of
-- the other.
use mathlib.Core.Path.{◌≡◌, refl, ◌∙◌}
use mathlib.Core.List.{List}
use Prim.Native.Nat.{ℕ, ◌+◌, ◌-◌, ◌*◌, ◌/◌, ◌%◌, ◌<◌}
use lib.ListN.{get_or}
use Rattle.ground.specs.Bytes.{Bytes}
use Rattle.field.specs.Field.{times, remainder, polynomial_product}
use Rattle.field.specs.Sbox.{sbox}
use Rattle.field.specs.Block.{block}
use Rattle.field.proofs.Sum.{byte_xor}
use Rattle.field.proofs.Product.{times_byte}
use Rattle.field.proofs.Block.{Block, block_of, block_same, whole}
use Rattle.aes.specs.Cipher.{mixed, at, sub_bytes, shift_rows, mix_columns, mixed_byte}
use Rattle.aes_inverse.specs.InvSbox.{inv_sbox}
use Rattle.aes_inverse.specs.InvCipher.{unmixed, inv_sub_bytes, inv_shift_rows, inv_mix_columns, unmixed_byte}
use Rattle.aes_inverse.proofs.InverseSbox.{inv_sbox_byte, inv_sbox_sbox, sbox_inv_sbox}
use Rattle.aes_inverse.proofs.Columns.{Column, after, unmixed_mixed, mixed_unmixed}

times9_byte : (b : ℕ) → b < 256 → times 0x09 b < 256
unfolding times remainder polynomial_product
times9_byte = times_byte 0x09 refl

times_b_byte : (b : ℕ) → b < 256 → times 0x0B b < 256
unfolding times remainder polynomial_product
times_b_byte = times_byte 0x0B refl

times_d_byte : (b : ℕ) → b < 256 → times 0x0D b < 256
unfolding times remainder polynomial_product
times_d_byte = times_byte 0x0D refl

times_e_byte : (b : ℕ) → b < 256 → times 0x0E b < 256
unfolding times remainder polynomial_product
times_e_byte = times_byte 0x0E refl

module _ (s : List ℕ) (h : Bytes s) where
  pub inv_sub_block : Block (inv_sub_bytes s)
  unfolding inv_sub_bytes
  inv_sub_block = block_of (λ i. inv_sbox (get_or s i 0)) (λ i. inv_sbox_byte (get_or s i 0) (h i))

  pub inv_shift_block : Block (inv_shift_rows s)
  unfolding inv_shift_rows
  inv_shift_block = block_of (λ i. at s (i % 4) ((i / 4 + (4 - i % 4)) % 4)) (λ i. h _)

  pub inv_mix_block : Block (inv_mix_columns s)
  unfolding inv_mix_columns unmixed_byte
  inv_mix_block =
      block_of (λ i. unmixed_byte s (i % 4) (i / 4))
      (λ i. byte_xor (byte_xor (times_e_byte _ (h _)) (times_b_byte _ (h _)))
      (byte_xor (times_d_byte _ (h _)) (times9_byte _ (h _))))

module _ (s : List ℕ) (b : Block s) where
  pub inv_sub_sub : inv_sub_bytes (sub_bytes s) ≡ s
  unfolding inv_sub_bytes sub_bytes
  inv_sub_sub = block_same (λ i. inv_sbox (sbox (get_or s i 0))) (λ i. get_or s i 0)
      (λ i. inv_sbox_sbox (get_or s i 0) (b.bytes i)) ∙ whole s b.sixteen

  pub sub_inv_sub : sub_bytes (inv_sub_bytes s) ≡ s
  unfolding inv_sub_bytes sub_bytes
  sub_inv_sub = block_same (λ i. sbox (inv_sbox (get_or s i 0))) (λ i. get_or s i 0)
      (λ i. sbox_inv_sbox (get_or s i 0) (b.bytes i)) ∙ whole s b.sixteen

  pub inv_shift_shift : inv_shift_rows (shift_rows s) ≡ s
  unfolding inv_shift_rows shift_rows
  inv_shift_shift = whole s b.sixteen

  pub shift_inv_shift : shift_rows (inv_shift_rows s) ≡ s
  unfolding inv_shift_rows shift_rows
  shift_inv_shift = whole s b.sixteen

  -- a law of one column, at the bytes of s from place i on: turned by none, one, two and three rows
  module _ (F : Column) (same : (a b c d : ℕ) → a < 256 → b < 256 → c < 256 → d < 256 → F a b c d ≡ a) where
    at_places : (i j k l : ℕ) → F (get_or s i 0) (get_or s j 0) (get_or s k 0) (get_or s l 0) ≡ get_or s i 0
    at_places i j k l =
        same (get_or s i 0) (get_or s j 0) (get_or s k 0) (get_or s l 0) (b.bytes i) (b.bytes j) (b.bytes k)
        (b.bytes l)

    all_columns : block (λ i. F (at s (i % 4) (i / 4)) (at s ((i % 4 + 1) % 4) (i / 4)) (at s ((i % 4 + 2) % 4) (i / 4))
        (at s ((i % 4 + 3) % 4) (i / 4))) ≡ s
    all_columns =
        block_same (λ i. F (at s (i % 4) (i / 4)) (at s ((i % 4 + 1) % 4) (i / 4)) (at s ((i % 4 + 2) % 4) (i / 4))
        (at s ((i % 4 + 3) % 4) (i / 4))) (λ i. at s (i % 4) (i / 4))
        (λ i. at_places (i % 4 + 4 * (i / 4)) ((i % 4 + 1) % 4 + 4 * (i / 4)) ((i % 4 + 2) % 4 + 4 * (i / 4))
        ((i % 4 + 3) % 4 + 4 * (i / 4)))
        ∙ whole s b.sixteen

  pub inv_mix_mix : inv_mix_columns (mix_columns s) ≡ s
  unfolding inv_mix_columns mix_columns unmixed_byte mixed_byte
  inv_mix_mix = all_columns (after unmixed mixed) unmixed_mixed

  pub mix_inv_mix : mix_columns (inv_mix_columns s) ≡ s
  unfolding inv_mix_columns mix_columns unmixed_byte mixed_byte
  mix_inv_mix = all_columns (after mixed unmixed) mixed_unmixed
