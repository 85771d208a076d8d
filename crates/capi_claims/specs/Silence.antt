-- Demand 3 of the functions for programs in C: from `roualint_sheet` on, over calls of `roualint_message` and
-- `roualint_power_up`.
use Rattle.std.specs.Prelude.{◌≡◌, List, [], ◌∷◌, ℕ}
use Rattle.ground.specs.Bytes.{Bytes, byte_at}
use Rattle.sheet.specs.Limits.{key_limit}
use Rattle.sheet.specs.Sheet.{said_of}
use Rattle.tag.specs.Plays.{Doing, LeftWith, events_of}
use Rattle.capi.specs.Kept.{SetUp}
use Rattle.capi.specs.Run.{Told, CallsAll}
use Rattle.silence.specs.Names.{named_in}
use Rattle.silence.specs.Silence.{Memory, MemoriesAlike, SameChange}
use Rattle.silence.specs.Sheets.{SheetsAlike}

-- What two calls leave, of tags whose memories were x and y at the start: the same number, the same reply in the room,
-- the same Purpose, the same state, and the same change of words.
pub record SameCall (x y : Memory) (l r : LeftWith Told) : Type 0 where
  pub number : l.stepped.number ≡ r.stepped.number
  pub long : l.stepped.long ≡ r.stepped.long
  pub purpose : l.stepped.purpose ≡ r.stepped.purpose
  pub state : byte_at l.stepped.image 0 ≡ byte_at r.stepped.image 0
  pub room : l.room ≡ r.room
  pub identity : SameChange x.identity y.identity l.identity r.identity
  pub user : SameChange x.user y.user l.user r.user

-- At every call.
unfoldable pub SameCalls : Memory → Memory → List (LeftWith Told) → List (LeftWith Told) → Type 0
SameCalls x y [] [] = Unit
SameCalls x y [] (r ∷ more) = ⊥
SameCalls x y (l ∷ more) [] = ⊥
SameCalls x y (l ∷ more) (r ∷ more') = SameCall x y l r × SameCalls x y more more'

-- Two sheets that differ only in key bytes of records that no message names have the same number and place; and where
-- they are taken, the tags that they become, whose memories differ only in words that are not open, can't be told apart
-- by any run of calls, given the same messages, draws and rooms.
abbrev pub SilentCalls : Type 0
SilentCalls =
    (ds : List Doing) (u v m n : List ℕ) (r s at place : ℕ) (image image' : List ℕ) (x y : Memory)
    → Bytes u
    → Bytes v
    → SheetsAlike (named_in (events_of ds)) u v
    → SetUp u m r at image
    → SetUp v n s place image'
    → (r ≡ s) × (at ≡ place)
    × ((ls rs : List (LeftWith Told))
    → r ≡ 0
    → MemoriesAlike (named_in (events_of ds)) (said_of key_limit u) x y
    → CallsAll image x.identity x.user ds ls
    → CallsAll image' y.identity y.user ds rs
    → SameCalls x y ls rs)
