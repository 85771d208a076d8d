-- Checks one after the other, with the tag's refusals: `Ok tt`, or the fault of the first that does not hold.
use Rattle.std.specs.Prelude.{List, Result, Ok, Err}
use Rattle.ground.specs.Checks.{Check, judged_to}
use Rattle.offer.specs.declared.TagFault.{TagFault}

abbrev pub judged : List (Check TagFault) → Result Unit TagFault
judged checks = judged_to Err checks (Ok tt)
