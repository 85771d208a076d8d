use lib.ListN.{get_or}
use Rattle.std.proofs.Common.{rules, tests}
use Rattle.field.specs.Block.{substituted}
use Rattle.field.proofs.Made.{made}
use Rattle.field.proofs.substitute.Goals as goal

pub returns : goal.returns
unfolding substituted
returns c =
    made (λ i. get_or c.args.table.now (get_or c.args.s i 0) 0) 16 (λ i y q lt k. search (rules, tests))
    c.from_fn.ensures.items
