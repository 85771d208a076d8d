-- `decimal::zeros` meets its contract.
use borrow.Author.Rules.{rules}
use borrow.Author.Tests.{tests}
use Rattle.std.proofs.lemmas.Iterator.{YieldsList-from_slice}
use Rattle.std.proofs.lemmas.Iterator.Search.{position_from_yields_List}
use Rattle.text.proofs.Decimals.{not_zero, zeros_from}
use Rattle.text.proofs.decimal.zeros.Goals as goal

pub returns : goal.returns
returns c = rw c.unwrap_or.ensures
    (zeros_from c.args.digits.now (search rules) c.position.result
    (position_from_yields_List not_zero _ _ _ c.position.ensures.ran
    (YieldsList-from_slice c.args.digits.now cc) (λ x b q k. search (rules, tests))))
