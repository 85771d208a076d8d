-- `words::Words::of` meets its contract.
use borrow.Author.Rules.{rules}
use borrow.Author.Tests.{tests}
use Rattle.std.proofs.lemmas.Iterator.{YieldsList-from_slice}
use Rattle.std.proofs.lemmas.Iterator.Search.{position_from_yields_List}
use Rattle.console.proofs.Lines.{is_hash, before_hash}
use Rattle.console.proofs.words.Words.of.Goals as goal

pub returns : goal.returns
returns c = rw c.unwrap_or-end.ensures
    (before_hash c.args.line.now c.position.result
    (position_from_yields_List is_hash _ _ _ c.position.ensures.ran
    (YieldsList-from_slice c.args.line.now cc) (λ x b q k. search (rules, tests))))
