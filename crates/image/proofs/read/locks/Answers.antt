-- `read::locks` meets its contract.
use Rattle.std.proofs.Common.{rules, tests}
use Rattle.sheet.specs.Limits.{lock_limit}
use Rattle.sheet.specs.Records.{lock_of}
use Rattle.image.proofs.Tables.{said_each}
use Rattle.image.proofs.read.locks.Goals as goal

pub returns : goal.returns
unfolding lock_limit
returns c =
    said_each lock_of 5 119 c.args.image.now 16 (λ i y q lt k. search (rules, tests)) c.from_fn.ensures.items
