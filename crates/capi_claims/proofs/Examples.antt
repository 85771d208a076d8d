-- No premise is hollow: two sheets that differ in every key byte of a record that no message names, set up by
-- `roualint_sheet`, and the tag that one of them says at its power-up.
use Rattle.sheet.specs.declared.SheetRefusal.{SheetRefusal}
use Rattle.std.specs.Prelude.{Result}
use mathlib.Core.Path.{◌≡◌, refl, sym, ap}
use mathlib.Core.Bool.{false}
use mathlib.Core.List.{List, []}
use Prim.Native.Nat.{ℕ}
use Rattle.ground.specs.Bytes.{Bytes}
use Rattle.ground.specs.Choice.{pick}
use Rattle.sheet.specs.Limits.{key_limit}
use Rattle.sheet.specs.Sheet.{said_of, read_number, read_place, verdict_number, verdict_place}
use Rattle.entry.specs.Sessions.{cleared}
use Rattle.tag.specs.Plays.{Doing, LeftWith, events_of}
use Rattle.tag.specs.States.{holding, powered_up}
use Rattle.tag.proofs.Holding.{powered_up_holds}
use Rattle.image.specs.Kept.{accepts, sheet_image}
use Rattle.image.proofs.Sessions.{cleared_fits}
use Rattle.capi.specs.Kept.{SetUp}
use Rattle.capi.specs.Run.{Told, CallsAll}
use Rattle.claims.proofs.Bench.{are_bytes}
use Rattle.silence.specs.Names.{named_in}
use Rattle.silence.specs.Silence.{Memory, MemoriesAlike}
use Rattle.silence.proofs.SheetsExamples.{sheet, taken, sheet_hidden}
use Rattle.capi_claims.specs.Recovery.{Recovers}
use Rattle.capi_claims.specs.Silence.{SameCalls}
use Rattle.capi_claims.proofs.Silence.{silent_calls}
use Rattle.capi_claims.proofs.Recovery.{sheet_recovers}

-- one client's keys, and another's
abbrev ours : List ℕ
ours = sheet 1 2

abbrev theirs : List ℕ
theirs = sheet 3 4

our_bytes : Bytes ours
our_bytes = are_bytes ours refl

their_bytes : Bytes theirs
their_bytes = are_bytes theirs refl

-- what `roualint_sheet` makes of such a sheet
set_up : (e m : ℕ) (image : List ℕ) → SetUp (sheet e m) image 0 0 (sheet_image cleared (sheet e m))
unfolding read_number read_place
set_up e m image = record {
  number = sym (ap verdict_number (taken e m));
  place = sym (ap verdict_place (taken e m));
  holds = sym (ap (λ (v : Result Unit SheetRefusal). pick (accepts v) (sheet_image cleared (sheet e m)) image)
      (taken e m));
}

-- the areas of the sheet have no words
abbrev nowhere : Memory
nowhere = record { identity = []; user = [] }

same_memory : (ds : List Doing) → MemoriesAlike (named_in (events_of ds)) (said_of key_limit ours) nowhere nowhere
same_memory ds = record { identity_length = refl; user_length = refl; identity = λ w o. refl; user = λ w o. refl }

pub calls_told_apart_by_nothing : (ds : List Doing) → named_in (events_of ds) 2 ≡ false
    → (ls rs : List (LeftWith Told))
    → CallsAll (sheet_image cleared ours) [] [] ds ls
    → CallsAll (sheet_image cleared theirs) [] [] ds rs
    → SameCalls nowhere nowhere ls rs
calls_told_apart_by_nothing ds h ls rs p q =
    (silent_calls ds ours theirs [] [] 0 0 0 0 _ _ nowhere nowhere our_bytes their_bytes
    (sheet_hidden (named_in (events_of ds)) h 1 2 3 4) (set_up 1 2 []) (set_up 3 4 [])).2 ls rs refl
    (same_memory ds) p q

pub recovers_awake : Recovers (sheet_image cleared ours) (holding (said_of key_limit ours) cleared)
unfolding powered_up
recovers_awake =
    sheet_recovers ours cleared our_bytes (taken 1 2) cleared_fits (powered_up_holds (said_of key_limit ours))
