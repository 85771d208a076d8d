use lib.Bits.{bit_xor}
use lib.ListN.{get_or}
use Rattle.std.proofs.Common.{rules, tests}
use Rattle.field.specs.Block.{xor}
use Rattle.field.proofs.Made.{made}
use Rattle.field.proofs.xor.Goals as goal

pub returns : goal.returns
unfolding xor
returns c =
    made (λ i. bit_xor (get_or c.args.a i 0) (get_or c.args.b i 0)) 16 (λ i y q lt k. search (rules, tests))
    c.from_fn.ensures.items
