-- `digits::is_word` meets its contract.
use mathlib.Core.Path.{sym, ◌∙◌}
use Prim.Native.Nat.{ℕ}
use lib.Dec.{ltb}
use borrow.Author.Rules.{rules}
use borrow.Author.Tests.{tests, eqb-false}
use Rattle.std.proofs.lemmas.Iterator.{YieldsList-from_slice}
use Rattle.std.proofs.lemmas.Iterator.Search.{all_from_yields_List}
use Rattle.text.specs.Digits.{value}
use Rattle.text.proofs.Words.{word}
use Rattle.text.proofs.digits.is_word.Goals as goal

pub returns-then-not-is_empty : goal.returns-then-not-is_empty
returns-then-not-is_empty c = let a = c.args in
    word a.base a.word.now c.all.result (eqb-false _ _ (sym c.is_empty.ensures ∙ c.if-not-is_empty.true))
    (all_from_yields_List (λ (x : ℕ). ltb (value x) a.base) _ _ _ c.all.ensures.ran
    (YieldsList-from_slice a.word.now cc) (λ x b q k. search (rules, tests)))
