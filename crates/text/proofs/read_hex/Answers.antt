-- `text::read_hex` meets its contract.
use mathlib.Core.Path.{sym, ◌∙◌}
use Rattle.text.proofs.Words.{all_digits}
use Rattle.text.proofs.Readings.{no_bytes, not_hex, odd, over, bytes}
use borrow.Author.Rules.{rules}
use Rattle.text.proofs.read_hex.Goals as goal

pub returns-then-is_dash : goal.returns-then-is_dash
returns-then-is_dash c = no_bytes _ _ (sym c.is_dash.ensures ∙ c.if-is_dash.true)

pub returns-then-not-is_word : goal.returns-then-not-is_word
returns-then-not-is_word c = not_hex _ _ (sym c.is_dash.ensures ∙ c.if-is_dash.false)
    (sym c.is_word.ensures ∙ c.if-not-is_word.true)

pub returns-then-word-eq1 : goal.returns-then-word-eq1
returns-then-word-eq1 c = let word = sym c.is_word.ensures ∙ c.if-not-is_word.false in
    let none = sym c.is_dash.ensures ∙ c.if-is_dash.false in
    odd _ _ none word c.if-word-eq1.true

pub returns-then-room-n : goal.returns-then-room-n
returns-then-room-n c = let word = sym c.is_word.ensures ∙ c.if-not-is_word.false in
    let none = sym c.is_dash.ensures ∙ c.if-is_dash.false in
    over _ _ none word c.if-word-eq1.false c.if-room-n.true

pub read_pairs-requires : goal.read_pairs-requires
read_pairs-requires c = (all_digits 16 _ (sym c.is_word.ensures ∙ c.if-not-is_word.false), search rules)

pub returns : goal.returns
returns c = let word = sym c.is_word.ensures ∙ c.if-not-is_word.false in
    let none = sym c.is_dash.ensures ∙ c.if-is_dash.false in
    bytes _ _ none word c.if-word-eq1.false
    c.if-room-n.false _ c.read_pairs.ensures
