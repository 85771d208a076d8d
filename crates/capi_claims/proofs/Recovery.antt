-- Recovery of the functions for programs in C: what the judge finds in the reply that a message left is what is due.
use Rattle.std.specs.Prelude.{Ok, Err}
use Rattle.offer.specs.Outcomes.{Outcome}
use Rattle.offer.specs.declared.Answer.TheVariants.{Replied, Entered}
use mathlib.Core.Path.{◌≡◌, refl, sym, ap, ◌∙◌, subst}
use mathlib.Core.Bool.{Bool}
use mathlib.Core.List.{List}
use Prim.Native.Nat.{ℕ}
use lib.ListN.{length, take}
use Rattle.ground.specs.Bytes.{Bytes}
use Rattle.ground.specs.Choice.{pick}
use Rattle.modes.specs.Room.{over}
use Rattle.sheet.specs.Limits.{key_limit}
use Rattle.sheet.specs.Sheet.{said_of, Accepted}
use Rattle.offer.specs.Outcomes.{number_given, reply_length}
use Rattle.entry.specs.declared.Session.{Session}
use Rattle.tag.specs.Answers.{Answer, answer_of}
use Rattle.tag.specs.Reactions.{lent}
use Rattle.tag.specs.States.{holding}
use Rattle.tag.proofs.Holding.{Holds}
use Rattle.reader.specs.declared.ReaderFault.TheVariants.{OwnMessage}
use Rattle.reader_judge.specs.Findings.{Finding, refused}
use Rattle.reader_judge.specs.Judged.{judgement_of}
use Rattle.image.specs.Image.{keyed_in}
use Rattle.image.specs.Kept.{sheet_image, Fits}
use Rattle.capi.specs.Reader.{keys_of, finding_of, Finds}
use Rattle.capi.proofs.Keeps.{answer_of_lem}
use Rattle.capi.proofs.Runs.{tag_there, said_back}
use Rattle.claims.specs.Answered.{among, tag_numbers}
use Rattle.claims.specs.Recovery.{Taken}
use Rattle.claims.proofs.Answered.{tag_number}
use Rattle.claims.proofs.Recovery.{recovery}
use Rattle.claims.proofs.RecoveryCode.{reply_left}
use Rattle.capi_claims.specs.Recovery.{Recovers, RecoveryCalls}

-- number 0 is that of a message that is taken
taken_by : (o : Outcome) → number_given o ≡ 0 → Taken o
taken_by (Ok (Replied n)) e = tt
taken_by (Ok (Entered purpose)) e = tt
taken_by (Err f) e =
    let h = sym (ap (among tag_numbers) e) ∙ tag_number f in
    absurd cc

pub recovery_calls : RecoveryCalls
recovery_calls image t identity user b z enc mac room r told worth issued challenge after fit given share enough sends
    zero =
    let c = lent b.message b.draws b.room identity user in
    let tag = keyed_in image in
    let g = answer_of_lem image t tag refl c in
    let taken = taken_by (answer_of c tag).outcome
    (sym (sends.number ∙ ap (λ (a : Answer). number_given a.outcome) g) ∙ zero) in
    let reply : take z.stepped.long z.room ≡ (answer_of c tag).reply =
    (λ j. take ((sends.long ∙ ap (λ (a : Answer). reply_length a.outcome) g) j)
    ((sends.sent ∙ ap (λ (a : Answer). over a.reply b.room) g) j)) ∙ reply_left c tag b.room in
    let keys = keys_of enc mac in
    let found = ap (λ (l : List ℕ). finding_of enc mac b.message l (length room)) reply
    ∙ ap (λ (x : Bool). pick x (judgement_of keys b.message (answer_of c tag).reply (length room))
    (refused OwnMessage))
    given
    ∙ recovery c tag keys (length room) fit share enough taken in
    subst (λ (f : Finding). Finds f room r told worth issued challenge after) found

-- of the tag that a sheet says, whatever it holds since
pub sheet_recovers : (sheet : List ℕ) (s : Session) → Bytes sheet → Accepted key_limit sheet → Fits s
    → Holds (said_of key_limit sheet).keys s → Recovers (sheet_image s sheet) (holding (said_of key_limit sheet) s)
sheet_recovers sheet s y e w k =
    subst (Recovers (sheet_image s sheet)) (sym (said_back sheet y e s w k))
    (recovery_calls (sheet_image s sheet) (tag_there sheet y e s w k))
