-- AES-ENC followed round by round, as FIPS 197, Appendix B, prints it: a table of round keys and states stands for the
-- cipher's own recursion, which antt can't compute in one piece.
use mathlib.Core.Path.{◌≡◌, refl, sym, ap, ◌∙◌, subst}
use mathlib.Core.List.{List, [], ◌∷◌}
use Prim.Native.Nat.{ℕ, suc, ◌+◌, ◌<◌}
use native.Mathlib.Omega.{arith}
use native.Mathlib.Nat.{add-zero, zero-add}
use lib.ListN.{length, get_or}
use Rattle.field.specs.Block.{xor}
use Rattle.field.proofs.Table.{entry_at}
use Rattle.aes.specs.Cipher.{sub_bytes, shift_rows, mix_columns, rounds, cipher}
use Rattle.aes.specs.KeyExpansion.{round_constant, round_key, key_expansion}
use Rattle.aes.specs.NextRoundKey.{next_round_key}
use Rattle.aes.specs.AesEnc.{aes_enc}
use Rattle.aes.proofs.Schedule.{next_round_key_lem, first_round_key}

-- A row: the round key of a round, and the state after it.
pub record Row : Type 0 where
  pub key : List ℕ
  pub state : List ℕ

-- Each row follows from the one before it, which is that of round n.
abbrev pub Follow : ℕ → Row → List Row → Type 0
Follow n r [] = Unit
Follow n r (s ∷ rows) =
    (next_round_key (round_constant (suc n)) r.key ≡ s.key)
    × (xor (mix_columns (shift_rows (sub_bytes r.state))) s.key ≡ s.state) × Follow (suc n) s rows

abbrev pub last_row : Row → List Row → Row
last_row r [] = r
last_row r (s ∷ rows) = last_row s rows

module _ (key input : List ℕ) where
  abbrev start : List ℕ
  start = xor input key

  -- The row is that of round n.
  pub record At (n : ℕ) (r : Row) : Type 0 where
    pub key_is : round_key key n ≡ r.key
    pub state_is : rounds (key_expansion key) start n ≡ r.state

  key_at : (n : ℕ) → n < 11 → get_or (key_expansion key) n [] ≡ round_key key n
  unfolding key_expansion
  key_at n h = entry_at [] (round_key key) 11 n h

  row_key : (n : ℕ) (r s : Row) → At n r → next_round_key (round_constant (suc n)) r.key ≡ s.key
      → round_key key (suc n) ≡ s.key
  row_key n r s h e = next_round_key_lem key n ∙ ap (next_round_key (round_constant (suc n))) h.key_is ∙ e

  row : (n : ℕ) (r s : Row) → n < 10 → At n r → next_round_key (round_constant (suc n)) r.key ≡ s.key
      → xor (mix_columns (shift_rows (sub_bytes r.state))) s.key ≡ s.state
      → At (suc n) s
  unfolding rounds
  row n r s l h e f =
      let k = row_key n r s h e in
      let g = key_at (suc n) (omega arith) ∙ k in
      record { key_is = k; state_is = (λ j. xor (mix_columns (shift_rows (sub_bytes (h.state_is j)))) (g j)) ∙ f }

  rows_follow : (rows : List Row) (n : ℕ) (r : Row) → n + length rows < 11 → At n r → Follow n r rows
      → At (n + length rows) (last_row r rows)
  rows_follow [] n r l h t = subst (λ (m : ℕ). At m r) (sym (add-zero n)) h
  rows_follow (s ∷ rows) n r l h (e, f, more) =
      subst (λ (m : ℕ). At m (last_row s rows)) (omega arith)
      (rows_follow rows (suc n) s (omega arith) (row n r s (omega arith) h e f) more)

  -- Nine rows, and the last round without MixColumns.
  pub traced : length key ≡ 16 → (rows : List Row) (k : List ℕ) → length rows ≡ 9
      → Follow 0 (record { key = key; state = start }) rows
      → next_round_key (round_constant 10) (last_row (record { key = key; state = start }) rows).key ≡ k
      → aes_enc key input ≡ xor (shift_rows (sub_bytes (last_row (record { key = key; state = start }) rows).state)) k
  unfolding aes_enc cipher rounds
  traced n rows k l f e =
      let r : Row = record { key = key; state = start } in
      let first = first_round_key key n in
      let nine = subst (λ (m : ℕ). At m (last_row r rows)) (zero-add (length rows) ∙ l)
      (rows_follow rows 0 r (omega arith) (record { key_is = first; state_is = refl }) f) in
      let k0 = key_at 0 (omega arith) ∙ first in
      let k10 = key_at 10 (omega arith) ∙ row_key 9 (last_row r rows) (record { key = k; state = [] }) nine e in
      let s9 = ap (λ (z : List ℕ). rounds (key_expansion key) (xor input z) 9) k0 ∙ nine.state_is in
      λ j. xor (shift_rows (sub_bytes (s9 j))) (k10 j)
