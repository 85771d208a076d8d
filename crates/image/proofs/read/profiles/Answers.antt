-- `read::profiles` meets its contract.
use Rattle.std.proofs.Common.{rules, tests}
use Rattle.sheet.specs.Limits.{profile_limit}
use Rattle.image.specs.Image.{slot_in}
use Rattle.image.proofs.Tables.{said_each}
use Rattle.image.proofs.read.profiles.Goals as goal

pub returns : goal.returns
unfolding profile_limit
returns c =
    said_each slot_in 6 22 c.args.image.now 16 (λ i y q lt k. search (rules, tests)) c.from_fn.ensures.items
