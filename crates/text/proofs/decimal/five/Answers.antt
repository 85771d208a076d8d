-- `decimal::five` meets its contract.
use Rattle.text.specs.Decimal.{five_digits}
use Rattle.text.proofs.decimal.five.Goals as goal

pub returns : goal.returns
unfolding five_digits
returns c = simp (
  c.last-5.ensures,
  c.last-4.ensures,
  c.last-3.ensures,
  c.last-2.ensures,
  c.last.ensures,
)
