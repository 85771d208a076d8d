-- AES-DEC undoes AES-ENC, and AES-ENC undoes AES-DEC: on every key of bytes and every block.
use mathlib.Core.Path.{◌≡◌, refl, ap, ◌∙◌}
use mathlib.Core.List.{List, []}
use Prim.Native.Nat.{ℕ, zero, suc}
use lib.ListN.{get_or}
use Rattle.ground.specs.Bytes.{Bytes}
use Rattle.field.specs.Block.{xor}
use Rattle.field.proofs.Block.{Block, xor_is_block, xor_undone}
use Rattle.aes.specs.Cipher.{sub_bytes, shift_rows, mix_columns, rounds, cipher}
use Rattle.aes.specs.KeyExpansion.{key_expansion}
use Rattle.aes.specs.AesEnc.{aes_enc}
use Rattle.aes.proofs.Forward.{Keys, sub_block, shift_block, mix_block, rounds_block, expanded_bytes}
use Rattle.aes_inverse.specs.InvCipher.{inv_sub_bytes, inv_shift_rows, inv_mix_columns, inv_rounds, inv_cipher}
use Rattle.aes_inverse.specs.AesDec.{aes_dec}
use Rattle.aes_inverse.proofs.Maps.{inv_sub_block, inv_shift_block, inv_mix_block, inv_sub_sub, sub_inv_sub}
use Rattle.aes_inverse.proofs.Maps.{inv_shift_shift, shift_inv_shift, inv_mix_mix, mix_inv_mix}

-- SubBytes and ShiftRows together, and back
abbrev forth : List ℕ → List ℕ
forth s = shift_rows (sub_bytes s)

abbrev back : List ℕ → List ℕ
back s = inv_sub_bytes (inv_shift_rows s)

forth_block : (s : List ℕ) → Block s → Block (forth s)
forth_block s b = shift_block (sub_bytes s) (sub_block s b.bytes).bytes

back_block : (s : List ℕ) → Block s → Block (back s)
back_block s b = inv_sub_block (inv_shift_rows s) (inv_shift_block s b.bytes).bytes

back_forth : (s : List ℕ) → Block s → back (forth s) ≡ s
back_forth s b = ap inv_sub_bytes (inv_shift_shift (sub_bytes s) (sub_block s b.bytes)) ∙ inv_sub_sub s b

forth_back : (s : List ℕ) → Block s → forth (back s) ≡ s
forth_back s b = ap shift_rows (sub_inv_sub (inv_shift_rows s) (inv_shift_block s b.bytes)) ∙ shift_inv_shift s b

module _ (w : List (List ℕ)) (hw : Keys w) where
  -- a round of InvCipher, and what it makes
  inv_round_block : (s k : List ℕ) → Block s → Bytes k → Block (inv_mix_columns (xor (back s) k))
  inv_round_block s k b hk = inv_mix_block (xor (back s) k) (xor_is_block (back s) k (back_block s b).bytes hk).bytes

  inv_rounds_block : (n : ℕ) (s : List ℕ) → Block s → Block (inv_rounds w n s)
  unfolding inv_rounds
  inv_rounds_block zero s b = b
  inv_rounds_block (suc n) s b = inv_rounds_block n (inv_mix_columns (xor (back s) (get_or w (suc n) [])))
      (inv_round_block s (get_or w (suc n) []) b (hw (suc n)))

  -- the rounds of InvCipher take the state before the last round of Cipher back to its start
  inv_rounds_rounds : (n : ℕ) (s : List ℕ) → Block s → inv_rounds w n (forth (rounds w s n)) ≡ forth s
  unfolding inv_rounds rounds
  inv_rounds_rounds zero s b = refl
  inv_rounds_rounds (suc n) s b =
      let t = rounds w s n in
      let k = get_or w (suc n) [] in
      let ht = forth_block t (rounds_block w hw s b n) in
      let hm = mix_block (forth t) ht.bytes in
      ap (λ (x : List ℕ). inv_rounds w n (inv_mix_columns (xor x k)))
      (back_forth (xor (mix_columns (forth t)) k) (xor_is_block (mix_columns (forth t)) k hm.bytes (hw (suc n))))
      ∙ ap (λ (x : List ℕ). inv_rounds w n (inv_mix_columns x)) (xor_undone (mix_columns (forth t)) k hm.sixteen)
      ∙ ap (inv_rounds w n) (inv_mix_mix (forth t) ht)
      ∙ inv_rounds_rounds n s b

  -- the rounds of Cipher take it there again
  rounds_inv_rounds : (n : ℕ) (s : List ℕ) → Block s → rounds w (back (inv_rounds w n s)) n ≡ back s
  unfolding inv_rounds rounds
  rounds_inv_rounds zero s b = refl
  rounds_inv_rounds (suc n) s b =
      let k = get_or w (suc n) [] in
      let hx = xor_is_block (back s) k (back_block s b).bytes (hw (suc n)) in
      let t = inv_mix_columns (xor (back s) k) in
      let ht = inv_round_block s k b (hw (suc n)) in
      ap (λ (x : List ℕ). xor (mix_columns (forth x)) k) (rounds_inv_rounds n t ht)
      ∙ ap (λ (x : List ℕ). xor (mix_columns x) k) (forth_back t ht)
      ∙ ap (λ (x : List ℕ). xor x k) (mix_inv_mix (xor (back s) k) hx)
      ∙ xor_undone (back s) k (back_block s b).sixteen

  pub inv_cipher_cipher : (s : List ℕ) → Block s → inv_cipher w (cipher w s) ≡ s
  unfolding inv_cipher cipher
  inv_cipher_cipher s b =
      let k0 = get_or w 0 [] in
      let k10 = get_or w 10 [] in
      let h0 = xor_is_block s k0 b.bytes (hw 0) in
      let t = rounds w (xor s k0) 9 in
      ap (λ (x : List ℕ). xor (back (inv_rounds w 9 x)) k0)
      (xor_undone (forth t) k10 (forth_block t (rounds_block w hw (xor s k0) h0 9)).sixteen)
      ∙ ap (λ (x : List ℕ). xor (back x) k0) (inv_rounds_rounds 9 (xor s k0) h0)
      ∙ ap (λ (x : List ℕ). xor x k0) (back_forth (xor s k0) h0)
      ∙ xor_undone s k0 b.sixteen

  pub cipher_inv_cipher : (s : List ℕ) → Block s → cipher w (inv_cipher w s) ≡ s
  unfolding inv_cipher cipher
  cipher_inv_cipher s b =
      let k0 = get_or w 0 [] in
      let k10 = get_or w 10 [] in
      let h10 = xor_is_block s k10 b.bytes (hw 10) in
      let t = inv_rounds w 9 (xor s k10) in
      ap (λ (x : List ℕ). xor (forth (rounds w x 9)) k10)
      (xor_undone (back t) k0 (back_block t (inv_rounds_block 9 (xor s k10) h10)).sixteen)
      ∙ ap (λ (x : List ℕ). xor (forth x) k10) (rounds_inv_rounds 9 (xor s k10) h10)
      ∙ ap (λ (x : List ℕ). xor x k10) (forth_back (xor s k10) h10)
      ∙ xor_undone s k10 b.sixteen

  inv_cipher_block : (s : List ℕ) → Block s → Block (inv_cipher w s)
  unfolding inv_cipher
  inv_cipher_block s b =
      let k0 = get_or w 0 [] in
      let t = inv_rounds w 9 (xor s (get_or w 10 [])) in
      xor_is_block (back t) k0 (back_block t (inv_rounds_block 9 (xor s (get_or w 10 []))
      (xor_is_block s (get_or w 10 []) b.bytes (hw 10)))).bytes (hw 0)

pub dec_block : (key s : List ℕ) → Bytes key → Block s → Block (aes_dec key s)
unfolding aes_dec
dec_block key s h b = inv_cipher_block (key_expansion key) (expanded_bytes key h) s b

pub dec_enc : (key s : List ℕ) → Bytes key → Block s → aes_dec key (aes_enc key s) ≡ s
unfolding aes_dec aes_enc
dec_enc key s h b = inv_cipher_cipher (key_expansion key) (expanded_bytes key h) s b

pub enc_dec : (key s : List ℕ) → Bytes key → Block s → aes_enc key (aes_dec key s) ≡ s
unfolding aes_dec aes_enc
enc_dec key s h b = cipher_inv_cipher (key_expansion key) (expanded_bytes key h) s b
