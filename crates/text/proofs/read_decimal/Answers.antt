use mathlib.Core.Path.{refl, sym, ◌∙◌}
use native.Mathlib.Omega.{arith}
use Rattle.text.proofs.Decimals.{digit_behind, none_behind, past, not_number, too_large, number}
use borrow.Author.Rules.{rules}
use Rattle.text.proofs.read_decimal.Goals as goal

pub returns-then-not-is_word : goal.returns-then-not-is_word
returns-then-not-is_word c = not_number _ (sym c.is_word.ensures ∙ c.if-not-is_word.true)

pub returns-in_default : goal.returns-in_default
returns-in_default c = let w = c.args.word.now in
    too_large w (sym c.is_word.ensures ∙ c.if-not-is_word.false)
    (past w c.loop-c.n c.loop-c.c-index _ (search rules) c.loop-c.invariant.1 refl
    (omega (arith, c.in_default.ensures)))

pub loop-c-preserved : goal.loop-c-preserved
loop-c-preserved c = (
  search rules,
  digit_behind c.args.word.now c.loop-c.n c.loop-c.c-index _ (search rules) c.loop-c.invariant.1
      c.in-Some.ensures.1,
)

pub returns : goal.returns
returns c = let w = c.args.word.now in
    number w (sym c.is_word.ensures ∙ c.if-not-is_word.false) c.loop-c.n (search rules)
    (sym c.loop-c.invariant.1 ∙ none_behind w c.loop-c.n c.loop-c.c-index (search rules))
