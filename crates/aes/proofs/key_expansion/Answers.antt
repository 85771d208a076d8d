use mathlib.Core.Path.{◌≡◌, refl, sym, ap₂, ◌∙◌}
use mathlib.Core.List.{List, [], ◌∷◌}
use Prim.Native.Nat.{ℕ, ◌+◌, ◌<◌}
use native.Mathlib.Numerals.{add-one}
use native.Mathlib.Omega.{arith}
use borrow.Author.Rules.{rules}
use lib.ListN.{length, get_or, length-set}
use Rattle.std.proofs.lemmas.List.Edits.{fill_by_more}
use Rattle.std.proofs.lemmas.List.FromFn.{fill_by_all}
use Rattle.field.specs.Field.{times, remainder, polynomial_product}
use Rattle.field.proofs.Table.{same_at}
use Rattle.aes.specs.KeyExpansion.{key_expansion, round_constant, round_key}
use Rattle.aes.specs.NextRoundKey.{next_round_key}
use Rattle.aes.proofs.Schedule.{first_round_key, next_round_key_lem}
use Rattle.aes.proofs.key_expansion.Goals as goal

-- the constants as they are written out
constants : (i : ℕ) → i < 10
    → get_or (1 ∷ 2 ∷ 4 ∷ 8 ∷ 16 ∷ 32 ∷ 64 ∷ 128 ∷ 27 ∷ 54 ∷ []) i 0 ≡ round_constant (i + 1)
unfolding round_constant times remainder polynomial_product
constants =
    same_at (λ i. get_or (1 ∷ 2 ∷ 4 ∷ 8 ∷ 16 ∷ 32 ∷ 64 ∷ 128 ∷ 27 ∷ 54 ∷ []) i 0) (λ i. round_constant (i + 1)) 10 refl

follows : (key : List ℕ) (i c : ℕ) {r k : List ℕ} → r ≡ next_round_key c k → c ≡ round_constant (i + 1)
    → k ≡ round_key key i
    → r ≡ round_key key (i + 1)
follows key i c e d h =
    e ∙ ap₂ next_round_key d h ∙ rw add-one (sym (next_round_key_lem key i))

pub loop-i-init : goal.loop-i-init
loop-i-init c =
    let key = c.args.key in
    let k0 : length key ≡ 16 = search rules in
    record {
      long = refl;
      made = λ k h. let e : k ≡ 0 = omega arith in rw e (sym (first_round_key key k0));
    }

pub loop-i-preserved : goal.loop-i-preserved
loop-i-preserved c =
    let key = c.args.key in
    let l = c.loop-i in
    let n = follows key l.i _ c.next_round_key-k.ensures (constants l.i c.loop-i-test.true)
    (l.invariant.made l.i (omega arith)) in
    record {
      long = length-set l.w (l.i + 1) c.next_round_key-k.result ∙ l.invariant.long;
      made = rw n (fill_by_more (round_key key) l.w (l.i + 1) [] (omega (arith, l.invariant.long)) l.invariant.made);
    }

pub returns : goal.returns
unfolding key_expansion
returns c =
    let l = c.loop-i in
    let e : l.i ≡ 10 = omega arith in
    fill_by_all (round_key c.args.key) l.w 11 [] l.invariant.long (λ k h. l.invariant.made k (omega arith))
