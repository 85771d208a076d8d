-- Demand 1 of the reader's side, proved: by the cases of its list.
use Rattle.std.specs.Prelude.{Ok, Err}
use mathlib.Core.Path.{◌≡◌, refl, sym, ap, ◌∙◌}
use mathlib.Core.Bool.{Bool, true, false}
use mathlib.Core.List.{List}
use Prim.Native.Nat.{ℕ}
use lib.ListN.{length}
use Rattle.ground.specs.Choice.{pick}
use Rattle.modes.specs.Room.{over}
use Rattle.reader.specs.declared.ReaderFault.{ReaderFault}
use Rattle.reader.specs.declared.ReaderFault.TheVariants.{ReplyLength, ChallengeWrong, MacWrong, HeaderWrong}
use Rattle.reader.specs.declared.ReaderFault.TheVariants.{OwnMessage}
use Rattle.reader.specs.Numbers.{number_of}
use Rattle.reader_judge.specs.Findings.{Finding}
use Rattle.reader_judge.proofs.Whole.{judgement_whole, whole_refusal}
use Rattle.reader_build.specs.Makes.{taken, made_number}
use Rattle.claims.specs.Answered.{Among, reader_numbers, JudgeAnswers, BuilderAnswers}

pub reader_number : (f : ReaderFault) → Among reader_numbers (number_of f)
reader_number ReplyLength = refl
reader_number ChallengeWrong = refl
reader_number MacWrong = refl
reader_number HeaderWrong = refl
reader_number OwnMessage = refl

-- ---- the judge

pub judge_answers : JudgeAnswers
judge_answers keys m reply room r after f h e =
    let q = whole_refusal (judgement_whole keys m reply (length room)) (sym h.says ∙ e) in
    record {
      number = reader_number f;
      silent = h.holds ∙ ap (λ (x : Finding). over x.bytes room) q;
      bytes = ap (λ (x : Finding). x.bytes) q;
      worth = ap (λ (x : Finding). x.worth) q;
      issued = ap (λ (x : Finding). x.issued) q;
      challenge = ap (λ (x : Finding). x.challenge) q;
    }

-- ---- the builders

builder_refused : (t : Bool) (n : ℕ) (message room after : List ℕ) (f : ReaderFault)
    → Err f ≡ pick t (Ok n) (Err OwnMessage) → after ≡ pick t (over message room) room → (number_of f ≡ 24)
    × (after ≡ room)
builder_refused true n message room after f e h = absurd cc
builder_refused false n message room after f e h = (ap made_number e, h)

pub builder_answers : BuilderAnswers
builder_answers fit message room r after f h e =
    builder_refused (taken fit room) (length message) message room after f (sym e ∙ h.says) h.holds
