use mathlib.Core.Path.{◌≡◌, refl, sym, ap, ◌∙◌}
use mathlib.Core.List.{List, [], ◌∷◌, ◌++◌}
use Prim.Native.Nat.{ℕ, zero, suc, ◌+◌, ◌≤◌}
use native.Mathlib.Numerals.{add-one}
use native.Mathlib.Omega.{arith}
use lib.ListN.{length, get_or, take, drop}
use lib.Seq.{get_or-append_seam, take-append_seam}
use Rattle.std.proofs.lemmas.List.{length-append, length-take, length-drop, get_or-take, take_all}
use Rattle.aes.specs.Cipher.{add_round_key}
use Rattle.aes.proofs.Schedule.{middle_key}
use Rattle.aes_inverse.specs.InvCipher.{inv_sub_bytes, inv_shift_rows, inv_mix_columns, inv_rounds, inv_cipher}
use borrow.Author.Rules.{rules}
use Rattle.aes_inverse.proofs.decipher.Goals as goal

one_round : (w : List (List ℕ)) (i : ℕ) (s : List ℕ)
    → inv_rounds w (i + 1) s
    ≡ inv_rounds w i (inv_mix_columns (add_round_key (inv_sub_bytes (inv_shift_rows s)) (get_or w (i + 1) [])))
unfolding inv_rounds
one_round w i s = rw add-one

no_round : (w : List (List ℕ)) (s : List ℕ) → inv_rounds w 0 s ≡ s
unfolding inv_rounds
no_round w s = refl

abbrev middle : List (List ℕ) → List (List ℕ)
middle w = take 9 (drop 1 w)

taken_less : (xs : List (List ℕ)) (m n : ℕ) → m ≤ n → take m (take n xs) ≡ take m xs
taken_less xs zero n h = refl
taken_less [] (suc m) zero h = refl
taken_less [] (suc m) (suc n) h = refl
taken_less (x ∷ xs) (suc m) zero h = absurd (omega arith)
taken_less (x ∷ xs) (suc m) (suc n) h = ap (λ (l : List (List ℕ)). x ∷ l) (taken_less xs m n (omega arith))

-- the last of the keys that are left
module _ (w rest less : List (List ℕ)) (k : List ℕ) (e : rest ≡ less ++ k ∷ []) (few : length rest ≤ 9)
    (keys : rest ≡ take (length rest) (middle w)) where
  one_less : length rest ≡ length less + 1
  one_less = omega (arith, ap length e, length-append less (k ∷ []))

  still_keys : less ≡ take (length less) (middle w)
  still_keys =
      sym (take-append_seam less (k ∷ [])) ∙ ap (take (length less)) (sym e ∙ keys)
      ∙ taken_less (middle w) (length less) (length rest) (omega (arith, one_less))

  last_key : k ≡ get_or w (length less + 1) []
  last_key =
      sym (get_or-append_seam less k [] []) ∙ ap (λ (l : List (List ℕ)). get_or l (length less) []) (sym e ∙ keys)
      ∙ get_or-take (length rest) (middle w) (length less) [] (omega (arith, one_less))
      ∙ middle_key w (length less) (omega (arith, one_less))

pub loop-k-init : goal.loop-k-init
loop-k-init c =
    let w = c.args.w in
    let long : length w ≡ 11 = search rules in
    let rest = c.into_iter-k-iterator.result.iter.rest.now in
    let e : rest ≡ middle w = cc (c.iter.ensures.rest) in
    let n : length rest ≡ 9 = omega (arith, ap length e, length-take 9 (drop 1 w), length-drop 1 w) in
    record {
      few = omega arith;
      keys = e ∙ sym (take_all (length rest) (middle w) (omega (arith, ap length e)));
      rounds = ap (λ (i : ℕ). inv_rounds w i c.xor-s.result) n;
    }

pub loop-k-preserved : goal.loop-k-preserved
loop-k-preserved c =
    let w = c.args.w in
    let l = c.loop-k in
    let rest = l.k-iterator.iter.rest.now in
    let less = c.next.new.self.iter.rest.now in
    let k = c.in-Some.k.now in
    let e : rest ≡ less ++ k ∷ [] = c.in-Some.ensures.steps in
    let i = l.invariant in
    let n = one_less w rest less k e i.few i.keys in
    record {
      few = omega (arith, n, i.few);
      keys = still_keys w rest less k e i.few i.keys;
      rounds =
          ap (inv_rounds w (length less))
          (c.inv_round-t.ensures
          ∙ ap (λ (x : List ℕ). inv_mix_columns (add_round_key (inv_sub_bytes (inv_shift_rows l.s)) x))
          (last_key w rest less k e i.few i.keys))
          ∙ sym (one_round w (length less) l.s)
          ∙ ap (λ (m : ℕ). inv_rounds w m l.s) (sym n)
          ∙ i.rounds;
    }

pub returns : goal.returns
unfolding inv_cipher
returns c =
    let w = c.args.w in
    let l = c.loop-k in
    let rest = l.k-iterator.iter.rest.now in
    let none : length rest ≡ 0 = c.in-None.ensures.steps.0 in
    let nine : l.s ≡ inv_rounds w 9 (add_round_key c.args.block (get_or w 10 [])) =
    sym (no_round w l.s) ∙ ap (λ (m : ℕ). inv_rounds w m l.s) (sym none) ∙ l.invariant.rounds
    ∙ ap (inv_rounds w 9) c.xor-s.ensures in
    c.xor.ensures
    ∙ ap (λ (s : List ℕ). add_round_key s (get_or w 0 []))
    (c.inv_sub_bytes.ensures ∙ ap inv_sub_bytes (c.inv_shift_rows.ensures ∙ ap inv_shift_rows nine))
