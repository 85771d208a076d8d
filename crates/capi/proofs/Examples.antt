-- The smallest sheet: its image is a tag's, and a run over it is a tag's run.
use mathlib.Core.Path.{◌≡◌, subst, ap}
use mathlib.Core.Bool.{true}
use mathlib.Core.List.{List, [], ◌∷◌}
use Prim.Native.Nat.{ℕ, ◌<◌}
use Rattle.std.proofs.Common.{rules}
use Rattle.ground.specs.Bytes.{Bytes}
use Rattle.ground.proofs.Bytes.{bytes_none, bytes_cons}
use Rattle.sheet.specs.Limits.{key_limit}
use Rattle.sheet.specs.Setups.{Setup, empty_setup}
use Rattle.sheet.specs.Sheet.{Accepted, verdict_of}
use Rattle.sheet_laws.proofs.Examples.{smallest, example_11, said_11}
use Rattle.entry.specs.Sessions.{cleared}
use Rattle.tag.specs.States.{powered_up}
use Rattle.tag.specs.Plays.{Doing, LeftWith, events_of, left_all}
use Rattle.tag.specs.Runs.{run}
use Rattle.image.specs.Image.{is_tag}
use Rattle.image.specs.Kept.{sheet_image}
use Rattle.capi.specs.Run.{Told, CallsAll, told_of}
use Rattle.capi.proofs.Runs.{sheet_tag, sheet_run}

smallest_accepted : Accepted key_limit smallest
smallest_accepted = ap verdict_of (example_11 key_limit)

abbrev EachSmall : List ℕ → Type 0
EachSmall [] = Unit
EachSmall (x ∷ s) = (x < 256) × EachSmall s

small_bytes : (s : List ℕ) → EachSmall s → Bytes s
small_bytes [] h = bytes_none
small_bytes (x ∷ s) (h, t) = bytes_cons x s h (small_bytes s t)

smallest_bytes : Bytes smallest
smallest_bytes = small_bytes smallest (search rules)

pub smallest_tag : is_tag (sheet_image cleared smallest) ≡ true
smallest_tag = sheet_tag smallest smallest_bytes smallest_accepted

pub smallest_run : (ds : List Doing) (zs : List (LeftWith Told)) → CallsAll (sheet_image cleared smallest) [] [] ds zs
    → zs ≡ left_all told_of ds (run (powered_up empty_setup) [] [] (events_of ds))
smallest_run ds zs h =
    subst (λ (x : Setup). zs ≡ left_all told_of ds (run (powered_up x) [] [] (events_of ds))) (said_11 key_limit)
    (sheet_run smallest smallest_bytes smallest_accepted ds zs [] [] h)
