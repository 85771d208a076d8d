-- What each map of the cipher makes of bytes is a block of bytes; and so AES-ENC of a block, under every key.
use mathlib.Core.Path.{refl}
use mathlib.Core.Bool.{Bool, true, false}
use mathlib.Core.List.{List, []}
use Prim.Native.Nat.{ℕ, zero, suc, ◌+◌, ◌*◌, ◌/◌, ◌%◌, ◌<◌}
use native.Mathlib.Nat.{zero-lt-suc}
use lib.Dec.{lit<, eqb}
use lib.ListN.{get_or}
use lib.Bits.{bit_xor}
use Rattle.ground.specs.Bytes.{Bytes}
use Rattle.field.specs.Field.{times, remainder, polynomial_product}
use Rattle.field.specs.Sbox.{sbox}
use Rattle.field.specs.Block.{tabulated_from, xor}
use Rattle.field.proofs.Sum.{byte_xor}
use Rattle.field.proofs.Product.{times_byte}
use Rattle.field.proofs.Inverse.{sbox_byte}
use Rattle.field.proofs.Block.{Block, tabulated_bytes, block_of, xor_is_block}
use Rattle.aes.specs.Cipher.{at, sub_bytes, shift_rows, mixed_byte, mix_columns, rounds, cipher}
use Rattle.aes.specs.KeyExpansion.{rot_word, sub_word, rcon, round_constant, turned, w, round_key, key_expansion}
use Rattle.aes.specs.AesEnc.{aes_enc}

times2_byte : (b : ℕ) → b < 256 → times 2 b < 256
unfolding times remainder polynomial_product
times2_byte = times_byte 2 refl

times3_byte : (b : ℕ) → b < 256 → times 3 b < 256
unfolding times remainder polynomial_product
times3_byte = times_byte 3 refl

module _ (s : List ℕ) (h : Bytes s) where
  pub sub_block : Block (sub_bytes s)
  unfolding sub_bytes
  sub_block = block_of (λ i. sbox (get_or s i 0)) (λ i. sbox_byte (get_or s i 0) (h i))

  pub shift_block : Block (shift_rows s)
  unfolding shift_rows
  shift_block = block_of (λ i. at s (i % 4) ((i / 4 + i % 4) % 4)) (λ i. h _)

  pub mix_block : Block (mix_columns s)
  unfolding mix_columns mixed_byte
  mix_block = block_of (λ i. mixed_byte s (i % 4) (i / 4))
      (λ i. byte_xor (byte_xor (times2_byte _ (h _)) (times3_byte _ (h _))) (byte_xor (h _) (h _)))

-- ---- the round keys

-- the round keys are bytes
abbrev pub Keys : List (List ℕ) → Type 0
Keys k = (i : ℕ) → Bytes (get_or k i [])

round_constant_byte : (j : ℕ) → round_constant j < 256
unfolding round_constant
round_constant_byte zero = lit< tt
round_constant_byte (suc zero) = lit< tt
round_constant_byte (suc (suc j)) = times2_byte (round_constant (suc j)) (round_constant_byte (suc j))

rcon_bytes : (j : ℕ) → Bytes (rcon j)
rcon_bytes j zero = round_constant_byte j
rcon_bytes j (suc zero) = lit< tt
rcon_bytes j (suc (suc zero)) = lit< tt
rcon_bytes j (suc (suc (suc zero))) = lit< tt
rcon_bytes j (suc (suc (suc (suc i)))) = lit< tt

turned_bytes : (b : Bool) (j : ℕ) (t : List ℕ) → Bytes t → Bytes (turned b j t)
turned_bytes true j t h =
    tabulated_bytes (λ i. bit_xor (get_or (sub_word (rot_word t)) i 0) (get_or (rcon j) i 0))
    (λ i. byte_xor (tabulated_bytes (λ k. sbox (get_or (rot_word t) k 0))
    (λ k. sbox_byte _ (tabulated_bytes (λ m. get_or t ((m + 1) % 4) 0) (λ m. h _) 4 k)) 4 i) (rcon_bytes j i)) 4
turned_bytes false j t h = h

w_bytes : (key : List ℕ) → Bytes key → (i : ℕ) → Bytes (w key i)
unfolding w
w_bytes key h zero = tabulated_bytes (λ i. get_or key i 0) h 4
w_bytes key h (suc zero) = tabulated_bytes (λ i. get_or key (4 + i) 0) (λ i. h (4 + i)) 4
w_bytes key h (suc (suc zero)) = tabulated_bytes (λ i. get_or key (8 + i) 0) (λ i. h (8 + i)) 4
w_bytes key h (suc (suc (suc zero))) = tabulated_bytes (λ i. get_or key (12 + i) 0) (λ i. h (12 + i)) 4
w_bytes key h (suc (suc (suc (suc i)))) =
    let t = turned (eqb ((4 + i) % 4) 0) ((4 + i) / 4) (w key (suc (suc (suc i)))) in
    tabulated_bytes (λ k. bit_xor (get_or (w key i) k 0) (get_or t k 0))
    (λ k. byte_xor (w_bytes key h i k) (turned_bytes (eqb ((4 + i) % 4) 0) ((4 + i) / 4) (w key (suc (suc (suc i))))
    (w_bytes key h (suc (suc (suc i)))) k)) 4

round_key_bytes : (key : List ℕ) → Bytes key → (n : ℕ) → Bytes (round_key key n)
unfolding round_key
round_key_bytes key h n = (block_of (λ i. get_or (w key (4 * n + i / 4)) (i % 4) 0)
    (λ i. w_bytes key h (4 * n + i / 4) (i % 4))).bytes

keys_from : (key : List ℕ) → Bytes key → (n j i : ℕ) → Bytes (get_or (tabulated_from (round_key key) j n) i [])
keys_from key h zero j i = λ k. zero-lt-suc 255
keys_from key h (suc n) j zero = round_key_bytes key h j
keys_from key h (suc n) j (suc i) = keys_from key h n (suc j) i

pub expanded_bytes : (key : List ℕ) → Bytes key → Keys (key_expansion key)
unfolding key_expansion
expanded_bytes key h = keys_from key h 11 0

-- ---- the cipher

module _ (k : List (List ℕ)) (hk : Keys k) where
  pub rounds_block : (s : List ℕ) → Block s → (n : ℕ) → Block (rounds k s n)
  unfolding rounds
  rounds_block s b zero = b
  rounds_block s b (suc n) =
      let t = rounds k s n in
      let sub = sub_block t (rounds_block s b n).bytes in
      let shift = shift_block (sub_bytes t) sub.bytes in
      xor_is_block (mix_columns (shift_rows (sub_bytes t))) (get_or k (suc n) [])
      (mix_block (shift_rows (sub_bytes t)) shift.bytes).bytes (hk (suc n))

  pub cipher_block_lem : (s : List ℕ) → Block s → Block (cipher k s)
  unfolding cipher
  cipher_block_lem s b =
      let t = rounds k (xor s (get_or k 0 [])) 9 in
      let sub = sub_block t (rounds_block (xor s (get_or k 0 []))
      (xor_is_block s (get_or k 0 []) b.bytes (hk 0)) 9).bytes in
      xor_is_block (shift_rows (sub_bytes t)) (get_or k 10 []) (shift_block (sub_bytes t) sub.bytes).bytes (hk 10)

pub enc_block : (key s : List ℕ) → Bytes key → Block s → Block (aes_enc key s)
unfolding aes_enc
enc_block key s h b = cipher_block_lem (key_expansion key) (expanded_bytes key h) s b
