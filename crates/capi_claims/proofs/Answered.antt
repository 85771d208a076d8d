-- Demand 1 of the functions for programs in C, proved: by the cases of each answer.
use Rattle.sheet.specs.declared.SheetRefusal.{SheetRefusal}
use Rattle.std.specs.Prelude.{Result, Ok, Err}
use Rattle.offer.specs.Outcomes.{Outcome}
use Rattle.offer.specs.declared.Answer.TheVariants.{Replied, Entered}
use Rattle.reader.specs.declared.ReaderFault.{ReaderFault}
use mathlib.Core.Path.{◌≡◌, refl, ap, ◌∙◌, subst}
use mathlib.Core.Logic.{◌⊎◌, inl, inr}
use mathlib.Core.Bool.{Bool, true, false}
use mathlib.Core.List.{List, [], ◌∷◌}
use Prim.Native.Nat.{ℕ, ◌≤◌, ◌<◌}
use borrow.Author.Tests.{ltb-true, ltb-false}
use lib.Dec.{eqb, ltb}
use lib.ListN.{length}
use Rattle.ground.specs.Bytes.{bit_of}
use Rattle.ground.specs.Choice.{pick}
use Rattle.modes.specs.Room.{over}
use Rattle.sheet.specs.Limits.{key_limit}
use Rattle.sheet.specs.Sheet.{read_of, read_number, verdict_number, verdict_of}
use Rattle.offer.specs.declared.TagFault.{TagFault}
use Rattle.offer.specs.declared.TagFault.TheVariants.{
  OtherError,
  NotSupported,
  MemoryOverrun,
  MemoryWriteError,
  OutOfTurn,
  ProofWrong,
  BenchFault,
}
use Rattle.offer.specs.Outcomes.{number_of, number_given, reply_length}
use Rattle.entry.specs.Sessions.{cleared}
use Rattle.tag.specs.Answers.{Answer, Call, answer_of, refused}
use Rattle.tag.specs.Reactions.{lent}
use Rattle.tag.specs.States.{KeyedTag, session_after}
use Rattle.tag.proofs.Unchanged.{refusal_unchanged}
use Rattle.reader_judge.specs.Findings.{Finding, refused as refused_finding, said_by, verdict_number as judged_number}
use Rattle.reader_judge.proofs.Whole.{whole_refusal}
use Rattle.reader_build.specs.Makes.{taken}
use Rattle.image.specs.Image.{kept, session_in, keyed_in, is_tag}
use Rattle.image.specs.Kept.{accepts, sheet_image}
use Rattle.image.proofs.Stays.{kept_same}
use Rattle.capi.specs.Kept.{purpose_given, answer_in, Answered}
use Rattle.capi.specs.Reader.{worth_number, finding_of, Finds}
use Rattle.capi.proofs.Findings.{finding_whole}
use Rattle.capi.proofs.Keeps.{answer_of_lem}
use Rattle.claims.specs.Answered.{Among, among, tag_numbers, reader_numbers, sheet_numbers}
use Rattle.claims.proofs.Answered.{tag_number, sheet_number}
use Rattle.claims.proofs.AnsweredReader.{reader_number}
use Rattle.capi_claims.specs.Answered.{
  Answers,
  SheetAnswers,
  PowerUpAnswers,
  AreasAnswers,
  Refuses,
  MessageAnswers,
  BuilderAnswers,
  Rejects,
  StateAnswers,
  JudgeAnswers,
  ChainAnswers,
}

-- the number is this one of the list
is_among : (numbers : List ℕ) (r n : ℕ) → r ≡ n → Among numbers n → Among numbers r
is_among numbers r n e h = ap (among numbers) e ∙ h

-- ---- where a test decides

pub power_up_answers : PowerUpAnswers
power_up_answers image r after h = by (is_tag image) h.number h.holds
  where
    by : (t : Bool) → r ≡ pick t 0 7 → after ≡ pick t (kept cleared image) image → Answers (7 ∷ []) r (after ≡ image)
    by true n e = inl n
    by false n e = inr (is_among (7 ∷ []) r 7 n refl, e)

pub areas_answers : AreasAnswers
areas_answers image r identity user h = by (is_tag image) _ _ h.number h.first h.second
  where
    by : (t : Bool) (i u : ℕ) → r ≡ pick t 0 7 → identity ≡ pick t i 0 → user ≡ pick t u 0
        → Answers (7 ∷ []) r ((identity ≡ 0) × (user ≡ 0))
    by true i u n e f = inl n
    by false i u n e f = inr (is_among (7 ∷ []) r 7 n refl, (e, f))

pub state_answers : StateAnswers
state_answers byte r e = by (ltb byte 4) refl e
  where
    by : (t : Bool) → ltb byte 4 ≡ t → r ≡ pick t byte 255 → ((byte < 4) × (r ≡ byte)) ⊎ ((4 ≤ byte) × (r ≡ 255))
    by true h q = inl (ltb-true byte 4 h, q)
    by false h q = inr (ltb-false byte 4 h, q)

pub builder_answers : BuilderAnswers
builder_answers fit message room r told after h = by (taken fit room) h.number h.long h.holds
  where
    by : (t : Bool) → r ≡ pick t 0 24 → told ≡ pick t (length message) 0 → after ≡ pick t (over message room) room
        → Answers (24 ∷ []) r ((told ≡ 0) × (after ≡ room))
    by true n l e = inl n
    by false n l e = inr (is_among (24 ∷ []) r 24 n refl, (l, e))

pub chain_answers : ChainAnswers
chain_answers true out room r after h = inl h.number
chain_answers false out room r after h = inr (is_among (8 ∷ []) r 8 h.number refl, h.leaves)

-- ---- a sheet, by its verdict

pub sheet_answers : SheetAnswers
unfolding read_number
sheet_answers sheet image r at after h = by (verdict_of (read_of key_limit sheet)) h.number h.holds
  where
    by : (v : Result Unit SheetRefusal) → r ≡ verdict_number v
        → after ≡ pick (accepts v) (sheet_image cleared sheet) image → Answers sheet_numbers r (after ≡ image)
    by (Ok tt) n e = inl n
    by (Err x) n e = inr (is_among sheet_numbers r _ n (sheet_number x.fault), e)

-- ---- a message

module _ (image message draws room identity user : List ℕ) (r told purpose : ℕ) (after reply i u : List ℕ)
    (enough : 16 ≤ length image) where
  abbrev call : Call
  call = lent message draws room identity user

  abbrev Then : Type 0
  Then = Refuses image room identity user r told purpose after reply i u

  -- the tag's bytes after each refusal
  held : (f : TagFault) → is_tag image ≡ true → r ≡ number_of f
      → after ≡ kept (session_after f (session_in image)) image
      → after ≡ pick (eqb r 7) image (kept cleared image)
  held OtherError t n e = rw n e
  held NotSupported t n e = rw n e
  held MemoryOverrun t n e = rw n e
  held MemoryWriteError t n e = rw n e
  held OutOfTurn t n e = rw n e
  held ProofWrong t n e = rw n e
  held BenchFault t n e = rw n (e ∙ kept_same image enough t)

  -- a tag's answer, by its outcome
  by_outcome : (t : is_tag image ≡ true) (o : Outcome) → (answer_of call (keyed_in image)).outcome ≡ o
      → Answered image (answer_of call (keyed_in image)) room r told purpose after reply i u
      → Answers tag_numbers r Then
  by_outcome t (Ok (Replied n)) e h = inl (h.number ∙ ap number_given e)
  by_outcome t (Ok (Entered p)) e h = inl (h.number ∙ ap number_given e)
  by_outcome t (Err f) e h =
      let k = refusal_unchanged call (keyed_in image) f e in
      let n = h.number ∙ ap number_given e in
      inr (
        is_among tag_numbers r _ n (tag_number f),
        record {
          long = h.long ∙ ap reply_length e;
          given = h.given ∙ ap purpose_given e;
          sent = h.sent ∙ ap (λ (l : List ℕ). over l room) k.silent;
          identity_kept = h.identity ∙ k.identity;
          user_kept = h.user ∙ k.user;
          holds = held f t n (h.holds
              ∙ ap (λ (b : Bool). pick b (kept (answer_of call (keyed_in image)).tag.session image) image) t
              ∙ ap (λ (z : KeyedTag). kept z.session image) k.tag);
        },
      )

  by_tag_lem : (b : Bool) → is_tag image ≡ b → Answered image (answer_in image call) room r told purpose after reply i u
      → Answers tag_numbers r Then
  unfolding refused
  by_tag_lem true t h =
      by_outcome t _ refl
      (subst (λ (a : Answer). Answered image a room r told purpose after reply i u)
      (answer_of_lem image t (keyed_in image) refl call) h)
  by_tag_lem false t h =
      let n : r ≡ 7 = rw t at h.number in
      inr (
        is_among tag_numbers r 7 n refl,
        record {
          long = rw t at h.long;
          given = rw t at h.given;
          sent = rw t at h.sent;
          identity_kept = rw t at h.identity;
          user_kept = rw t at h.user;
          holds = rw n (rw t at h.holds);
        },
      )

pub message_answers : MessageAnswers
message_answers image message draws room identity user r told purpose after reply i u enough =
    by_tag_lem image message draws room identity user r told purpose after reply i u enough (is_tag image) refl

-- ---- the judge

module _ (enc mac message reply room : List ℕ) (r told worth issued : ℕ) (challenge after : List ℕ) where
  abbrev found : Finding
  found = finding_of enc mac message reply (length room)

  quiet : (f : ReaderFault) → found.verdict ≡ Err f → found ≡ refused_finding f
  quiet f e = whole_refusal (finding_whole enc mac message reply (length room))
      (ap (λ (v : Result Unit ReaderFault). said_by v found) e)

  by_verdict : (v : Result Unit ReaderFault) → found.verdict ≡ v → Finds found room r told worth issued challenge after
      → Answers reader_numbers r (Rejects room told worth issued challenge after)
  by_verdict (Ok tt) e h = inl (h.number ∙ ap judged_number e)
  by_verdict (Err f) e h =
      let q = quiet f e in
      inr (
        is_among reader_numbers r _ (h.number ∙ ap judged_number e) (reader_number f),
        record {
          long = h.long ∙ ap (λ (z : Finding). length z.bytes) q;
          value = h.value ∙ ap (λ (z : Finding). worth_number z.worth) q;
          flag = h.flag ∙ ap (λ (z : Finding). bit_of z.issued) q;
          came = h.came ∙ ap (λ (z : Finding). z.challenge) q;
          holds = h.holds ∙ ap (λ (z : Finding). over z.bytes room) q;
        },
      )

pub judge_answers : JudgeAnswers
judge_answers enc mac message reply room r told worth issued challenge after =
    by_verdict enc mac message reply room r told worth issued challenge after _ refl
