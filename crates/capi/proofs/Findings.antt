-- What the judge says, as plain numbers: a finding is whole, so that what is said and the data's bytes are all of it.
use Rattle.std.specs.Prelude.{Result, Ok, Err}
use Rattle.std.specs.Option.{is_some, unwrap_or}
use mathlib.Core.Path.{◌≡◌, refl, sym, ap, ◌∙◌}
use mathlib.Core.Bool.{Bool, true, false}
use mathlib.Core.List.{List}
use Prim.Native.Nat.{ℕ}
use lib.ListN.{length, replicate}
use Rattle.ground.specs.Bytes.{bit_of}
use Rattle.ground.specs.Choice.{pick}
use Rattle.reader.specs.declared.ReaderFault.{ReaderFault}
use Rattle.reader.specs.declared.ReaderFault.TheVariants.{OwnMessage}
use Rattle.reader.specs.Numbers.{number_of}
use Rattle.reader_judge.specs.declared.Accepted.{Accepted}
use Rattle.reader_judge.specs.Findings.{Finding, refused, verdict_number, Judges}
use Rattle.reader_judge.specs.Judged.{judgement_of}
use Rattle.reader_judge.proofs.Whole.{Whole, judgement_whole, whole_refusal, whole_acceptance, said_count}
use Rattle.capi.specs.Reader.{mac_given, keys_of, worth_number, finding_of, Finds}

pub finding_whole : (enc mac message reply : List ℕ) (room : ℕ) → Whole (finding_of enc mac message reply room)
finding_whole enc mac message reply room = by (mac_given mac)
  where
    by : (t : Bool) → Whole (pick t (judgement_of (keys_of enc mac) message reply room) (refused OwnMessage))
    by true = judgement_whole (keys_of enc mac) message reply room
    by false = refl

module _ {f : Finding} {room after : List ℕ} {r : Result Accepted ReaderFault} (w : Whole f)
    (h : Judges f room r after) where
  -- what is accepted
  pub acceptance : {a : Accepted} → r ≡ Ok a
      → Finds f room 0 a.«data» (worth_number a.worth) (bit_of (is_some a.challenge))
      (unwrap_or a.challenge (replicate 10 0)) after
  acceptance {a} e =
      let s = sym h.says ∙ e in
      let q = sym (whole_acceptance w s) in
      record {
        number = ap (λ (x : Finding). verdict_number x.verdict) q;
        long = said_count f a s;
        value = ap (λ (x : Finding). worth_number x.worth) q;
        flag = ap (λ (x : Finding). bit_of x.issued) q;
        came = ap (λ (x : Finding). x.challenge) q;
        holds = h.holds;
      }

  -- a refusal tells neither data nor challenge
  pub refusal : {e : ReaderFault} → r ≡ Err e → Finds f room (number_of e) 0 0 0 (replicate 10 0) after
  refusal {e} s =
      let q = sym (whole_refusal w (sym h.says ∙ s)) in
      record {
        number = ap (λ (x : Finding). verdict_number x.verdict) q;
        long = ap (λ (x : Finding). length x.bytes) q;
        value = ap (λ (x : Finding). worth_number x.worth) q;
        flag = ap (λ (x : Finding). bit_of x.issued) q;
        came = ap (λ (x : Finding). x.challenge) q;
        holds = h.holds;
      }

-- each finding, as plain numbers
pub ruleset in_numbers = (finding_whole, acceptance, refusal)
