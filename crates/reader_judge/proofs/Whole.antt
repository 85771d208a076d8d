-- What the judge says is, with the bytes of the data, the whole of its finding: a refusal has neither data nor
-- challenge, and where no challenge is told there is none.
use Rattle.std.specs.Prelude.{Result, Ok, Err}
use Rattle.std.specs.Option.{is_some, unwrap_or}
use mathlib.Core.Path.{◌≡◌, refl, sym, ap, ◌∙◌}
use mathlib.Core.Bool.{Bool, true, false}
use mathlib.Core.List.{List, [], ◌∷◌}
use Prim.Native.Nat.{ℕ}
use lib.ListN.{length, replicate}
use Rattle.ground.specs.Choice.{pick}
use Rattle.frames.specs.Kinds.{kind_of}
use Rattle.reader.specs.declared.Keys.{Keys}
use Rattle.reader.specs.declared.ReaderFault.{ReaderFault}
use Rattle.reader.specs.declared.ReaderFault.TheVariants.{OwnMessage}
use Rattle.reader.specs.Own.{own_fits}
use Rattle.reader_judge.specs.declared.Accepted.{Accepted}
use Rattle.reader_judge.proofs.Every.{every_kind}
use Rattle.reader_judge.specs.Findings.{Finding, refused, said_by, said_of}
use Rattle.reader_judge.specs.Judged.{by_kind, of_kind, judgement_of}

-- The finding that is said, of data of these bytes; zeros stand for a challenge that is not told.
abbrev pub found_in : Result Accepted ReaderFault → List ℕ → Finding
found_in (Ok a) bytes = record {
  verdict = Ok tt;
  bytes = bytes;
  worth = a.worth;
  issued = is_some a.challenge;
  challenge = unwrap_or a.challenge (replicate 10 0);
}
found_in (Err e) bytes = refused e

abbrev pub Whole : Finding → Type 0
Whole f = f ≡ found_in (said_of f) f.bytes

-- ---- each finding is

chosen : (t : Bool) (x y : Finding) → Whole x → Whole y → Whole (pick t x y)
chosen true x y h k = h
chosen false x y h k = k

pub judgement_whole : (keys : Keys) (m reply : List ℕ) (room : ℕ) → Whole (judgement_of keys m reply room)
unfolding judgement_of of_kind
judgement_whole keys [] reply room = refl
judgement_whole keys (b ∷ m) reply room =
    chosen (own_fits keys (kind_of b) (b ∷ m) room) (by_kind keys (b ∷ m) reply (kind_of b)) (refused OwnMessage)
    (every_kind Whole (λ e. refl) keys (b ∷ m) reply refl (λ c. refl) (λ mode p. refl) (kind_of b)) refl

-- ---- by what is said

-- Nothing but the refusal.
pub whole_refusal : {f : Finding} {e : ReaderFault} → Whole f → said_of f ≡ Err e → f ≡ refused e
whole_refusal {f} h s = h ∙ ap (λ (r : Result Accepted ReaderFault). found_in r f.bytes) s

-- What is accepted, with the data's bytes.
pub whole_acceptance : {f : Finding} {a : Accepted} → Whole f → said_of f ≡ Ok a → f ≡ found_in (Ok a) f.bytes
whole_acceptance {f} h s = h ∙ ap (λ (r : Result Accepted ReaderFault). found_in r f.bytes) s

abbrev data_in : Result Accepted ReaderFault → ℕ
data_in (Ok a) = a.«data»
data_in (Err e) = 0

pub said_count : (f : Finding) (a : Accepted) → said_of f ≡ Ok a → a.«data» ≡ length f.bytes
said_count f a = by f.verdict
  where
    by : (v : Result Unit ReaderFault) → said_by v f ≡ Ok a → a.«data» ≡ length f.bytes
    by (Ok tt) s = sym (ap data_in s)
    by (Err e) s = cc
