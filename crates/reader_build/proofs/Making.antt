-- A builder's answer from its parts: what is not fit, a room that is too short, and what frames built.
use Rattle.std.specs.Prelude.{Option, Some, None, Result, Ok, Err, ℕ}
use Rattle.std.specs.Option.{ok_or}
use Rattle.reader.specs.declared.ReaderFault.{ReaderFault}
use mathlib.Core.Path.{◌≡◌, refl, sym, ap, ap₂, ◌∙◌}
use mathlib.Core.Bool.{Bool, true, false}
use mathlib.Core.List.{List, ◌++◌}
use Prim.Native.Nat.{ℕ, ◌≤◌, ◌<◌}
use native.Mathlib.Omega.{arith}
use borrow.Author.Tests.{le-leb, lt-leb, leb-true, leb-false, lt-ltb, eqb-true}
use lib.Dec.{eqb, leb}
use lib.ListN.{length, drop}
use Rattle.ground.specs.Choice.{pick, both}
use Rattle.modes.specs.Room.{over}
use Rattle.frames.specs.declared.Custom.{Custom}
use Rattle.frames.specs.Blocks.{data_length}
use Rattle.frames.specs.Built.{Built}
use Rattle.frames.specs.Fields.{custom_fits}
use Rattle.frames.specs.Lengths.{message_room}
use Rattle.frames.specs.Messages.{select_fits}
use Rattle.frames.specs.Modes.{prot_mode_of}
use Rattle.frames.proofs.Range.{both_left, both_right}
use Rattle.reader.specs.declared.Keys.{Keys}
use Rattle.reader.specs.declared.ReaderFault.TheVariants.{OwnMessage}
use Rattle.frames.proofs.ProtModes.{says, mode_below}
use Rattle.reader.specs.Own.{mode_served, mode_fits}
use Rattle.reader_build.specs.Builds.{purpose_fits, data_fits, iam3_fits}
use Rattle.reader_build.specs.Makes.{Makes, made_number, taken}

numbered : (b : Bool) (n : ℕ) → made_number (pick b (Ok n) (Err OwnMessage)) ≡ pick b 0 24
numbered true n = refl
numbered false n = refl

-- by one test t that says whether the message is taken
pub decided : (fit t : Bool) (message room after : List ℕ) (answer : Result ℕ ReaderFault) → t ≡ taken fit room
    → answer ≡ pick t (Ok (length message)) (Err OwnMessage)
    → after ≡ pick t (over message room) room → Makes fit message room answer after
decided fit t message room after answer e says holds = record {
  says = says ∙ ap (λ (b : Bool). pick b (Ok (length message)) (Err OwnMessage)) e;
  number = ap made_number says ∙ numbered t (length message) ∙ ap (λ (b : Bool). pick b 0 24) e;
  holds = holds ∙ ap (λ (b : Bool). pick b (over message room) room) e;
}

no_room : (fit : Bool) → both fit false ≡ false
no_room true = refl
no_room false = refl

room_enough : (fit : Bool) → both fit true ≡ fit
room_enough true = refl
room_enough false = refl

-- what is let in: all that was asked is fit, and the room has the bytes of the longest message
pub let_in : (part : Bool) (n : ℕ) (u : Unit) (a : Result Unit ReaderFault)
    → a ≡ pick (both part (leb message_room n)) (Ok tt) (Err OwnMessage) → a ≡ Ok u
    → (part ≡ true) × (message_room ≤ n)
let_in part n u a e w =
    let t = chosen (both part (leb message_room n)) e w in
    (both_left part _ t, leb-true message_room n (both_right part _ t))
  where
    chosen : (t : Bool) → a ≡ pick t (Ok tt) (Err OwnMessage) → a ≡ Ok u → t ≡ true
    chosen true e w = refl
    chosen false e w = cc

pub short : (fit : Bool) (message room : List ℕ) → length room < message_room
    → Makes fit message room (Err OwnMessage) room
short fit message room h = decided fit false message room room (Err OwnMessage)
    (sym (ap (both fit) (lt-leb message_room (length room) h) ∙ no_room fit)) refl refl

pub unfit : (fit : Bool) (message room : List ℕ) → fit ≡ false → Makes fit message room (Err OwnMessage) room
unfit fit message room e = decided fit false message room room (Err OwnMessage)
    (ap (λ (b : Bool). both b (leb message_room (length room))) (sym e)) refl refl

-- frames' answer, with the fault where there is none
turned : (t : Bool) (n : ℕ) → ok_or (pick t (Some n) None) OwnMessage ≡ pick t (Ok n) (Err OwnMessage)
turned true n = refl
turned false n = refl

-- what frames built, in a room that has the bytes of the longest message
pub built : (fit fields : Bool) (b : Option ℕ) (n : ℕ) (message room after : List ℕ) (answer : Result ℕ ReaderFault)
    → message_room ≤ length room → fields ≡ fit → length message ≡ n → n ≤ message_room
    → Built fields n message room b after → answer ≡ ok_or b OwnMessage
    → Makes fit message room answer after
built fit fields b n message room after answer h e l m r says =
    let t : both fields (leb n (length room)) ≡ fit = ap (both fields) (le-leb n (length room) (omega arith))
    ∙ room_enough fields ∙ e in
    decided fit fit message room after answer
    (sym (ap (both fit) (le-leb message_room (length room) h) ∙ room_enough fit))
    (says ∙ ap (λ (x : Option ℕ). ok_or x OwnMessage) r.says ∙ turned (both fields (leb n (length room))) n
    ∙ ap₂ {C = (Result ℕ ReaderFault)} (λ x k. pick x (Ok k) (Err OwnMessage)) t (sym l))
    (r.holds ∙ ap₂ {C = List ℕ} (λ x k. pick x (message ++ drop k room) room) t (sym l))

-- what is not let in
pub left_out : (part fit : Bool) (message room : List ℕ) (f : ReaderFault) (a : Result Unit ReaderFault)
    → (part ≡ false → fit ≡ false) → a ≡ pick (both part (leb message_room (length room))) (Ok tt) (Err OwnMessage)
    → a ≡ Err f → Makes fit message room (Err f) room
left_out part fit message room f a h e w =
    let c = refused (both part (leb message_room (length room))) e w in
    rw c.1 (by_part part (leb message_room (length room)) c.0 h (leb-false message_room (length room)))
  where
    refused : (t : Bool) → a ≡ pick t (Ok tt) (Err OwnMessage) → a ≡ Err f → (t ≡ false) × (f ≡ OwnMessage)
    refused true e w = absurd (let w : ⊥ = cc in w)
    refused false e w = (refl, cc)

    by_part : (p l : Bool) → both p l ≡ false → (p ≡ false → fit ≡ false) → (l ≡ false → length room < message_room)
        → Makes fit message room (Err OwnMessage) room
    by_part true l e h s = short fit message room (s e)
    by_part false l e h s = unfit fit message room (h refl)

-- the same message in other words
pub in_words : (fit : Bool) (l message room after : List ℕ) (answer : Result ℕ ReaderFault) → l ≡ message
    → Makes fit l room answer after → Makes fit message room answer after
in_words fit l message room after answer e h = rw (← e) h

-- ---- Purpose

pub purpose_in_lem : (purpose : ℕ) → purpose < 16 → true ≡ purpose_fits purpose
unfolding purpose_fits
purpose_in_lem purpose h = sym (lt-ltb purpose 16 h)

-- ---- ProtMode

module _ (keys : Keys) (protmode : ℕ) where
  pub mode_range : mode_fits keys protmode ≡ true → protmode < 4
  unfolding mode_fits
  mode_range e =
      let s = says protmode (mode_served keys) e in
      mode_below protmode s.mode s.named

  pub no_mode : prot_mode_of protmode ≡ None → mode_fits keys protmode ≡ false
  unfolding mode_fits
  no_mode none = rw none

  -- what frames asks of the fields, once the ProtMode fits
  pub select_fit : (custom : Custom) → mode_fits keys protmode ≡ true
      → select_fits 0 custom protmode ≡ both (mode_fits keys protmode) (custom_fits custom)
  unfolding select_fits
  select_fit custom e =
      let l = mode_range e in
      ap (λ (b : Bool). both b (custom_fits custom)) (lt-ltb protmode 16 (omega arith) ∙ sym e)

-- ---- what an IAM3 says

module _ (keys : Keys) (custom : Custom) (protmode purpose n : ℕ) where
  -- all but Profile, Offset and BlockCount
  abbrev pub part_fits : Bool
  part_fits = both (mode_fits keys protmode) (both (purpose_fits purpose) (data_fits custom n))

  grouped : (a b c d : Bool) → both (both a (both b c)) d ≡ both a (both b (both c d))
  grouped true true c d = refl
  grouped true false c d = refl
  grouped false b c d = refl

  pub parts_fit : both part_fits (custom_fits custom) ≡ iam3_fits keys custom protmode purpose n
  unfolding iam3_fits
  parts_fit = grouped (mode_fits keys protmode) (purpose_fits purpose) (data_fits custom n) (custom_fits custom)

  pub part_unfit : part_fits ≡ false → iam3_fits keys custom protmode purpose n ≡ false
  part_unfit e = sym parts_fit ∙ ap (λ (b : Bool). both b (custom_fits custom)) e

  -- what holds where all fit
  pub part_count : part_fits ≡ true → n ≡ data_length custom.blocksize custom.blockcount
  unfolding data_fits
  part_count e =
      let x = eqb n (data_length custom.blocksize custom.blockcount) in
      eqb-true _ _ (both_right (purpose_fits purpose) x
      (both_right (mode_fits keys protmode) (both (purpose_fits purpose) x) e))

  pub part_select : part_fits ≡ true → custom_fits custom ≡ true → select_fits 0 custom protmode ≡ true
  part_select e f =
      let m = both_left (mode_fits keys protmode) (both (purpose_fits purpose) (data_fits custom n)) e in
      select_fit keys protmode custom m ∙ ap₂ both m f

  pub part_purposed : part_fits ≡ true → purpose_fits purpose ≡ true
  part_purposed e = both_left (purpose_fits purpose) (data_fits custom n)
      (both_right (mode_fits keys protmode) (both (purpose_fits purpose) (data_fits custom n)) e)
