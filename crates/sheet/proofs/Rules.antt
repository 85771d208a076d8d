-- Each kind's rule: what follows of it from the calls on the way.
use mathlib.Core.Path.{◌≡◌}
use mathlib.Core.Bool.{true}
use mathlib.Core.List.{List}
use Prim.Native.Nat.{ℕ, ◌<◌}
use lib.Dec.{leb, ltb}
use borrow.Author.Tests.{ltb-true}
use Rattle.ground.specs.Choice.{both}
use Rattle.ground.proofs.Choice.{both_true}
use Rattle.sheet.specs.Limits.{profile_limit}
use Rattle.ground.specs.Bytes.{byte_at, word_at}
use Rattle.sheet.specs.Records.{inside, profile_rule}
use Rattle.sheet.specs.declared.Sizes.{Sizes}

-- 04: the number that is taken is a place of the table
pub profile_place : (number : ℕ) (z : Sizes) (b : List ℕ) → profile_rule number z b ≡ true
    → byte_at b 0 < profile_limit
unfolding profile_rule
profile_place number z b e =
    let within = inside z (byte_at b 1) (word_at b 2) (word_at b 4) in
    let low = ltb (byte_at b 0) profile_limit in
    let h = both_true (leb number (byte_at b 0)) (both low within) e in
    ltb-true (byte_at b 0) profile_limit (both_true low within h.1).0
