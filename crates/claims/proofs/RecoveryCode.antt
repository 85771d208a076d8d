-- Recovery of the code: what a step left in its room is the reply, so that the judge finds what is due.
use mathlib.Core.Path.{◌≡◌, refl, ap, ◌∙◌, subst}
use mathlib.Core.List.{List}
use Prim.Native.Nat.{ℕ}
use lib.ListN.{length, take, drop}
use lib.Seq.{take_at}
use Rattle.offer.specs.Outcomes.{reply_length}
use Rattle.modes.specs.Room.{over}
use Rattle.tag.specs.Answers.{Call, answer_of}
use Rattle.tag.specs.States.{KeyedTag, keyed}
use Rattle.tag.specs.Reactions.{lent}
use Rattle.tag.proofs.PaperNumbers.{length_told}
use Rattle.reader_judge.specs.Findings.{Finding, Judges}
use Rattle.reader_judge.specs.Judged.{judgement_of}
use Rattle.claims.specs.Recovery.{Taken, RecoveryCode}
use Rattle.claims.proofs.Recovery.{recovery}

-- what a step left in its room, as far as its outcome says, is its reply
pub reply_left : (c : Call) (t : KeyedTag) (room : List ℕ)
    → take (reply_length (answer_of c t).outcome) (over (answer_of c t).reply room) ≡ (answer_of c t).reply
reply_left c t room =
    let a = answer_of c t in
    ap (λ (n : ℕ). take n (over a.reply room)) (length_told c t)
    ∙ take_at a.reply (drop (length a.reply) room) (length a.reply) refl

pub recovery_code : RecoveryCode
recovery_code table tag identity user b x keys room r after called fit share enough taken judges =
    let c = lent b.message b.draws b.room identity user in
    let t = keyed tag table in
    let reply : take (reply_length x.stepped.outcome) x.room ≡ (answer_of c t).reply =
    (λ j. take (reply_length (called.outcome j)) (called.reply j)) ∙ reply_left c t b.room in
    let found = ap (λ (l : List ℕ). judgement_of keys b.message l (length room)) reply
    ∙ recovery c t keys (length room) fit share enough (subst Taken called.outcome taken) in
    subst (λ (f : Finding). Judges f room r after) found judges
