-- What the judge leaves behind, from what it says.
use mathlib.Core.Path.{◌≡◌, refl, sym, ap, ◌∙◌}
use mathlib.Core.Bool.{Bool, true}
use mathlib.Core.List.{List, [], ◌∷◌, ◌++◌, append_assoc}
use Prim.Native.Nat.{ℕ, ◌≤◌}
use native.Mathlib.Omega.{arith}
use borrow.Author.Tests.{leb-true}
use lib.Dec.{leb}
use lib.ListN.{length, get_or, take, drop, take-append-drop}
use lib.Seq.{drop-append-le, length-take-le}
use Rattle.ground.specs.Choice.{pick, both}
use Rattle.ground.specs.Checks.{Check, judged_to}
use Rattle.ground.proofs.Checked.{keeps}
use Rattle.modes.specs.Room.{over}
use Rattle.frames.specs.declared.Kind.{Kind}
use Rattle.frames.specs.Kinds.{kind_of}
use Rattle.frames.specs.Lengths.{length_fits}
use Rattle.frames.proofs.Range.{both_left}
use Rattle.reader.specs.declared.Keys.{Keys}
use Rattle.reader.specs.declared.ReaderFault.{ReaderFault}
use Rattle.reader.specs.declared.ReaderFault.TheVariants.{OwnMessage}
use Rattle.std.specs.Prelude.{Result, Ok, Err, Some, None, slice_get}
use Rattle.reader_judge.specs.declared.Accepted.{Accepted}
use Rattle.reader_judge.specs.Findings.{Finding, refused, said_by, said_of, verdict_number, Judges}
use Rattle.reader_judge.specs.Judged.{by_kind, of_kind, judgement_of}
use Rattle.reader.specs.Own.{data_room, fields_fit, own_fits}

-- Data over the room's first bytes, as many as are said.
pub judges : (f : Finding) (room after : List ℕ) (r : Result Accepted ReaderFault) → r ≡ said_of f
    → after ≡ over f.bytes room → Judges f room r after
judges f room after r e h = record {
  says = e;
  number = ap verdict_number e ∙ numbered f.verdict;
  holds = h;
}
  where
    numbered : (v : Result Unit ReaderFault) → verdict_number (said_by v f) ≡ verdict_number v
    numbered (Ok tt) = refl
    numbered (Err e) = refl

-- No data: no byte of the room changes.
pub quiet : (f : Finding) (room : List ℕ) (r : Result Accepted ReaderFault) → f.bytes ≡ [] → r ≡ said_of f
    → Judges f room r room
quiet f room r n e = judges f room room r e (rw n)

-- A refusal.
pub refuses : (e : ReaderFault) (room : List ℕ) → Judges (refused e) room (Err e) room
refuses e room = quiet (refused e) room (Err e) refl refl

-- What is said of a finding is said of what it is.
pub told : {r : Result Accepted ReaderFault} {g h : Finding} → g ≡ h → r ≡ said_of g → r ≡ said_of h
told q e = e ∙ ap said_of q

pub judges_as : {f g : Finding} {room after : List ℕ} {r : Result Accepted ReaderFault} → f ≡ g → Judges f room r after
    → Judges g room r after
judges_as e h = rw (← e) h

-- What is left in the room's first bytes, which have the data, is left in the room: its other bytes stay.
pub widened : {f : Finding} {room first after : List ℕ} {r : Result Accepted ReaderFault} → data_room ≤ length room
    → first ≡ take data_room room → length f.bytes ≤ data_room → Judges f first r after
    → Judges f room r (after ++ drop data_room room)
widened {f} {room} {first} {after} {r} enough e few h =
    let n = length f.bytes in
    let front = take data_room room in
    let fits : n ≤ length front = omega (arith, length-take-le data_room room enough) in
    judges f room (after ++ drop data_room room) r h.says
    (ap (λ (l : List ℕ). l ++ drop data_room room) (h.holds ∙ ap (over f.bytes) e)
    ∙ append_assoc f.bytes (drop n front) (drop data_room room)
    ∙ ap (λ (l : List ℕ). f.bytes ++ l) (sym (drop-append-le n front (drop data_room room) fits)
    ∙ ap (drop n) (take-append-drop data_room room)))

-- A line of checks brings no data of its own.
pub line_quiet : (cs : List (Check ReaderFault)) (found : Finding) → found.bytes ≡ []
    → (judged_to refused cs found).bytes ≡ []
line_quiet cs found e = keeps refused found (λ (f : Finding). f.bytes ≡ []) (λ f. refl) e cs

-- The first byte of a message that has one.
pub first_there : (m : List ℕ) → (length m ≡ 0 → ⊥) → slice_get m 0 ≡ Some (get_or m 0 0)
first_there [] h = absurd (h refl)
first_there (x ∷ m) h = refl

-- The judge, from the message's first byte on.
pub no_message : (keys : Keys) (m reply : List ℕ) (room : ℕ) → slice_get m 0 ≡ None
    → refused OwnMessage ≡ judgement_of keys m reply room
unfolding judgement_of
no_message keys [] reply room e = refl
no_message keys (x ∷ m) reply room e = cc

by_first : (keys : Keys) (m reply : List ℕ) (room x : ℕ) → slice_get m 0 ≡ Some x
    → judgement_of keys m reply room ≡ of_kind keys m reply room (kind_of x)
unfolding judgement_of
by_first keys [] reply room x e = cc
by_first keys (y ∷ m) reply room x e =
    let q : y ≡ x = cc in
    ap (λ (z : ℕ). of_kind keys (y ∷ m) reply room (kind_of z)) q

module _ (keys : Keys) (m reply : List ℕ) (room : ℕ) where
  pub own_told : (x : ℕ) (kind : Kind) → slice_get m 0 ≡ Some x → kind ≡ kind_of x
      → {b : Bool} → own_fits keys kind m room ≡ b
      → judgement_of keys m reply room ≡ pick b (by_kind keys m reply kind) (refused OwnMessage)
  unfolding of_kind
  own_told x kind some e {b} h = by_first keys m reply room x some ∙ ap (of_kind keys m reply room) (sym e)
      ∙ ap (λ (t : Bool). pick t (by_kind keys m reply kind) (refused OwnMessage)) h

pub room_enough : (keys : Keys) (kind : Kind) (m : List ℕ) (room : ℕ) → own_fits keys kind m room ≡ true
    → data_room ≤ room
unfolding own_fits
room_enough keys kind m room h = leb-true data_room room
    (both_left (leb data_room room) (both (length_fits kind m) (fields_fit keys kind m)) h)
