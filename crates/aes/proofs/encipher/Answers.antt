use mathlib.Core.Path.{◌≡◌, refl, sym, ap, ap₂, ◌∙◌}
use mathlib.Core.List.{List, []}
use Prim.Native.Nat.{ℕ, ◌+◌, ◌<◌}
use native.Mathlib.Numerals.{add-one}
use native.Mathlib.Omega.{arith}
use lib.ListN.{length, get_or, drop}
use borrow.Author.Rules.{rules}
use Rattle.std.proofs.lemmas.List.{length-take, length-drop}
use Rattle.aes.specs.Cipher.{sub_bytes, shift_rows, mix_columns, add_round_key, rounds, cipher}
use Rattle.aes.proofs.Schedule.{middle_key}
use Rattle.aes.proofs.encipher.Goals as goal

one_round : (w : List (List ℕ)) (s : List ℕ) (i : ℕ)
    → rounds w s (i + 1) ≡ add_round_key (mix_columns (shift_rows (sub_bytes (rounds w s i)))) (get_or w (i + 1) [])
unfolding rounds
one_round w s i = rw add-one

pub loop-k-init : goal.loop-k-init
unfolding rounds
loop-k-init c = refl

pub loop-k-preserved : goal.loop-k-preserved
loop-k-preserved c =
    let w = c.args.w in
    let l = c.loop-k in
    let h : l.k-index < 9 = omega (arith, c.loop-k-test.true, length-take 9 (drop 1 w)) in
    c.round-t.ensures
    ∙ ap₂ (λ (s k : List ℕ). add_round_key (mix_columns (shift_rows (sub_bytes s))) k) l.invariant
    (middle_key w l.k-index h)
    ∙ sym (one_round w c.xor-s.result l.k-index)

pub returns : goal.returns
unfolding cipher
returns c =
    let w = c.args.w in
    let l = c.loop-k in
    let long : length w ≡ 11 = search rules in
    let e : l.k-index ≡ 9 = omega (arith, length-take 9 (drop 1 w), length-drop 1 w) in
    let nine : l.s ≡ rounds w (add_round_key c.args.block (get_or w 0 [])) 9 =
    l.invariant ∙ ap₂ (rounds w) c.xor-s.ensures e in
    c.xor.ensures
    ∙ ap (λ (s : List ℕ). add_round_key s (get_or w 10 []))
    (c.shift_rows.ensures ∙ ap shift_rows (c.sub_bytes.ensures ∙ ap sub_bytes nine))
