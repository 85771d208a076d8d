-- `digits::glyph` meets its contract.
use Rattle.text.proofs.Values.{low_glyph, high_glyph}
use borrow.Author.Rules.{rules}
use Rattle.text.proofs.digits.glyph.Goals as goal

pub returns-then-d-lt10 : goal.returns-then-d-lt10
returns-then-d-lt10 c = low_glyph _ (search rules)

pub returns-else-d-lt10 : goal.returns-else-d-lt10
returns-else-d-lt10 c = high_glyph _ (search rules)
