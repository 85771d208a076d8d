-- Demand 3 of the functions for programs in C: a run of calls is the tag's own run, of which it is proved.
use Rattle.sheet.specs.declared.SheetRefusal.{SheetRefusal}
use Rattle.std.specs.Prelude.{Result, Ok, Err}
use mathlib.Core.Path.{◌≡◌, refl, sym, ap, ◌∙◌, subst}
use mathlib.Core.List.{List, [], ◌∷◌}
use Prim.Native.Nat.{ℕ}
use Rattle.ground.specs.Bytes.{Bytes}
use Rattle.modes.specs.Room.{over}
use Rattle.sheet.specs.Limits.{key_limit}
use Rattle.sheet.specs.Sheet.{verdict_of}
use Rattle.sheet.specs.Sheet.{read_of, read_number, read_place, said_of, verdict_number, verdict_place, Accepted}
use Rattle.offer.specs.Outcomes.{number_given, reply_length}
use Rattle.entry.specs.declared.Session.{Session}
use Rattle.tag.specs.Answers.{Answer}
use Rattle.tag.specs.Plays.{Doing, LeftWith, events_of, room_of, left_all}
use Rattle.image.specs.Image.{state_number, image_of}
use Rattle.capi.specs.Kept.{purpose_given, SetUp}
use Rattle.capi.specs.Run.{Told, CallsAll, told_of}
use Rattle.capi.proofs.Runs.{sheet_made, sheet_run}
use Rattle.claims.specs.Answered.{among, sheet_numbers}
use Rattle.silence.specs.Names.{named_in}
use Rattle.silence.specs.Silence.{Memory, SameAnswers, answers}
use Rattle.claims.proofs.Answered.{sheet_number}
use Rattle.silence.proofs.SheetsRead.{sheets_read_alike, silent_sheets}
use Rattle.capi_claims.specs.Silence.{SameCalls, SilentCalls}

-- what calls tell of the same answers is the same
same_calls : (x y : Memory) (ds : List Doing) (as' bs' : List Answer) → SameAnswers x y as' bs'
    → SameCalls x y (left_all told_of ds as') (left_all told_of ds bs')
unfolding SameAnswers SameCalls left_all image_of
same_calls x y [] as' bs' h = tt
same_calls x y (d ∷ ds) [] [] h = tt
same_calls x y (d ∷ ds) [] (c ∷ cs) h = absurd h
same_calls x y (d ∷ ds) (a ∷ more) [] h = absurd h
same_calls x y (d ∷ ds) (a ∷ more) (c ∷ cs) (e, h) = (
  record {
    number = ap number_given e.outcome;
    long = ap reply_length e.outcome;
    purpose = ap purpose_given e.outcome;
    state = ap (λ (s : Session). state_number s.state) e.session;
    room = ap (λ (r : List ℕ). over r (room_of d)) e.reply;
    identity = e.identity;
    user = e.user;
  },
  same_calls x y ds more cs h,
)

-- number 0 is that of a sheet that is taken
whole_by : (v : Result Unit SheetRefusal) → verdict_number v ≡ 0 → v ≡ Ok tt
whole_by (Ok tt) e = refl
whole_by (Err x) e =
    let h = sym (ap (among sheet_numbers) e) ∙ sheet_number x.fault in
    absurd cc

-- a run of calls from what `roualint_sheet` made
module _ (sheet : List ℕ) (p : Bytes sheet) (e : Accepted key_limit sheet) (before : List ℕ) (r at : ℕ)
    (image : List ℕ) (h : SetUp sheet before r at image) (x : Memory) (ds : List Doing) (ls : List (LeftWith Told))
  where
    ran : CallsAll image x.identity x.user ds ls → ls ≡ left_all told_of ds
        (answers (said_of key_limit sheet) x (events_of ds))
    ran c = sheet_run sheet p e ds ls x.identity x.user
        (subst (λ (i : List ℕ). CallsAll i x.identity x.user ds ls) (sheet_made sheet p e before r at image h) c)

pub silent_calls : SilentCalls
unfolding read_number read_place
silent_calls ds u v m n r s at place image image' x y p q alike hu hv =
    let read = sheets_read_alike (named_in (events_of ds)) u v p q alike in (
      hu.number ∙ ap verdict_number read.verdict ∙ sym hv.number,
      hu.place ∙ ap verdict_place read.verdict ∙ sym hv.place,
      λ ls rs zero mem cu cv.
          let e = whole_by (verdict_of (read_of key_limit u)) (sym hu.number ∙ zero) in
          let f = sym read.verdict ∙ e in
          let same = same_calls x y ds _ _ (silent_sheets (events_of ds) u v x y p q alike mem).1 in
          subst (λ (z : List (LeftWith Told)). SameCalls x y ls z) (sym (ran v q f n s place image' hv y ds rs cv))
          (subst (λ (z : List (LeftWith Told)). SameCalls x y z (left_all told_of ds (answers (said_of key_limit v) y
          (events_of ds)))) (sym (ran u p e m r at image hu x ds ls cu)) same),
    )
