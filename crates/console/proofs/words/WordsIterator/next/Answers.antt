-- `words::Words::next` gives the first word.
use borrow.Author.Rules.{rules}
use borrow.Author.Tests.{tests}
use Rattle.std.proofs.lemmas.Iterator.{YieldsList-from_slice}
use Rattle.std.proofs.lemmas.Iterator.Search.{position_from_yields_List}
use Rattle.std.specs.List.{position}
use Rattle.std.specs.Option.{unwrap_or}
use mathlib.Core.Path.{ap, ◌∙◌}
use mathlib.Core.List.{List}
use Prim.Native.Nat.{ℕ, ◌+◌, ◌-◌}
use lib.ListN.{length, take, drop}
use Rattle.console.specs.Words.{blank, visible}
use Rattle.console.proofs.Given.{given, none, behind}
use Rattle.console.proofs.words.WordsIterator.next.Goals as goal

pub returns-in_err-start-clause-steps : goal.returns-in_err-start-clause-steps
returns-in_err-start-clause-steps c = rw c.from_residual.ensures
    (none c.args.self.now.rest.now c.position.result
    (position_from_yields_List visible _ _ _ c.position.ensures.ran
    (YieldsList-from_slice c.args.self.now.rest.now cc) (λ x b q k. search (rules, tests)))
    c.in_err-start.was)

pub returns-clause-steps : goal.returns-clause-steps
returns-clause-steps c =
    given c.args.self.now.rest.now c.in_ok-start.start c.unwrap_or-more.result c.position.result c.position-2.result
    (position_from_yields_List visible _ _ _ c.position.ensures.ran
    (YieldsList-from_slice c.args.self.now.rest.now cc) (λ x b q k. search (rules, tests)))
    c.in_ok-start.was
    (position_from_yields_List blank _ _ _ c.position-2.ensures.ran
    (YieldsList-from_slice (take (length c.args.self.now.rest.now - (c.in_ok-start.start + 1))
    (drop (c.in_ok-start.start + 1) c.args.self.now.rest.now)) cc) (λ x b q k. search (rules, tests))
    ∙ ap (position blank) (behind c.args.self.now.rest.now (c.in_ok-start.start + 1)))
    (c.unwrap_or-more.ensures ∙ ap (λ (l : List ℕ). unwrap_or c.position-2.result (length l))
    (behind c.args.self.now.rest.now (c.in_ok-start.start + 1)))
