-- A tag that has what a kind of message takes does take one, after an empty message and a challenge where it asks for
-- one.
use Rattle.offer.specs.Outcomes.{Outcome}
use mathlib.Core.Path.{◌≡◌, refl, ap, ◌∙◌}
use mathlib.Core.List.{List, [], ◌∷◌}
use Prim.Native.Nat.{ℕ}
use native.Mathlib.Omega.{arith}
use lib.ListN.{replicate, length-replicate}
use Rattle.ground.specs.Bytes.{byte_at}
use Rattle.frames.specs.declared.Kind.{Kind}
use Rattle.frames.specs.declared.Kind.TheVariants.{Tam1, Tam2, Iam1, Iam2, Iam3, Mam1, Mam2, Unsupported}
use Rattle.frames.specs.declared.Tam2.{Tam2 as Tam2Fields}
use Rattle.frames.specs.Blocks.{data_length}
use Rattle.frames.specs.Kinds.{kind_of, tam_kind, iam_kind, mam_kind}
use Rattle.frames.specs.Messages.{tam1_message, iam1_message, iam2_message, mam1_message, mam2_message}
use Rattle.frames.proofs.Shape.{tam2_shape}
use Rattle.offer.specs.Outcomes.{number_given}
use Rattle.offer.specs.Records.{offered}
use Rattle.offer.proofs.Bytes.{zeros_bytes}
use Rattle.tag.specs.States.{keyed, in_turn}
use Rattle.tag.specs.Answers.{Answer, replied, let_in}
use Rattle.tag.specs.Plays.{Brought}
use Rattle.reader_build.specs.Builds.{tam1_made, tam2_made, iam1_made, iam2_made, mam1_made, mam2_made}
use Rattle.claims.specs.Starts.{Start, HasRecord, HasFeature, HasReadable, HasWritable, Takes}
use Rattle.claims.specs.ShutOut.{steps}
use Rattle.claims.proofs.Bench.{drawn, brings}
use Rattle.claims.proofs.Openings.{tam2_answered}
use Rattle.claims.proofs.Reached.{call_at, answer_at, reached}
use Rattle.claims.proofs.Taken.{lends, nothing, rests, tam1, tam1_seen}
use Rattle.claims.proofs.Challenged.{iam1, iam1_taken, iam1_leads, iam2, iam2_taken}
use Rattle.claims.proofs.Challenged.{mam1, mam1_taken, mam1_leads, mam2, mam2_taken}
use Rattle.claims.proofs.Challenged.{iam3, iam3_begins, iam3_taken}

-- a run of messages of which the last is of the kind, and is taken
pub record Serves (kind : Kind) (s : Start) : Type 0 where
  pub before : List Brought
  pub message : Brought
  pub begins : kind_of (byte_at message.message 0) ≡ kind
  pub taken : number_given (answer_at (reached s (steps before)) message).outcome ≡ 0

-- the number of an answer, where the run leads to the start t
number : {s t : Start} {a : Answer} (b : Brought) → s ≡ t → answer_at t b ≡ a
    → number_given (answer_at s b).outcome ≡ number_given a.outcome
number b e q =
    ap (λ (t : Start). number_given (answer_at t b).outcome) e
    ∙ ap (λ (x : Answer). number_given x.outcome) q

tam1_served : (s : Start) → HasRecord s → Serves Tam1 s
unfolding steps tam1_made tam1_message kind_of tam_kind
tam1_served s h = record {
  before = [];
  message = tam1 s h 0 0;
  begins = refl;
  taken = ap (λ (x : Outcome × List ℕ). number_given x.0) (tam1_seen s h 0 0);
}

tam2_served : (s : Start) → HasReadable s → Serves Tam2 s
unfolding steps tam2_made offered in_turn replied
tam2_served s r =
    let f : Tam2Fields = record {
      rev = r.rev;
      rfu = 0;
      keyid = r.holder.keyid;
      ichallenge = drawn 0;
      custom = r.custom;
      protmode = r.protmode;
    } in
    let keyid = r.holder.keyid in
    let b = brings (tam2_made keyid (drawn 0) r.rev r.custom r.protmode) 0 in
    record {
      before = [];
      message = b;
      begins = (tam2_shape f refl (omega arith)).1;
      taken = number b refl (tam2_answered (call_at s b) (keyed s.tag s.table) keyid (drawn 0) r.rev
          r.custom r.protmode (record { bench = lends s r.holder 0; there = refl; turn = refl })
          r.holder.there refl r.nameable r.readable refl);
    }

iam1_served : (s : Start) → HasFeature Iam1 s → Serves Iam1 s
unfolding steps iam1_made iam1_message kind_of iam_kind replied
iam1_served s h = record {
  before = nothing ∷ [];
  message = iam1 s h.holder;
  begins = refl;
  taken = number (iam1 s h.holder) (rests s h.holder) (iam1_taken s h.holder h.feature);
}

iam2_served : (s : Start) → HasFeature Iam1 s → Serves Iam2 s
unfolding iam2_made iam2_message kind_of iam_kind let_in
iam2_served s h = record {
  before = nothing ∷ iam1 s h.holder ∷ [];
  message = iam2 s h.holder;
  begins = refl;
  taken = number (iam2 s h.holder) (iam1_leads s h.holder h.feature)
      (iam2_taken s h.holder h.feature);
}

iam3_served : (s : Start) → HasWritable s → Serves Iam3 s
unfolding let_in
iam3_served s w =
    let n = data_length w.custom.blocksize w.custom.blockcount in
    let words : List ℕ = replicate n 0 in
    record {
      before = nothing ∷ iam1 s w.holder ∷ [];
      message = iam3 s w words;
      begins = iam3_begins s w words;
      taken = number (iam3 s w words) (iam1_leads s w.holder w.iam1)
          (iam3_taken s w words (zeros_bytes n) (length-replicate n 0));
    }

mam1_served : (s : Start) → HasFeature Mam1 s → Serves Mam1 s
unfolding steps mam1_made mam1_message kind_of mam_kind replied
mam1_served s h = record {
  before = nothing ∷ [];
  message = mam1 s h.holder;
  begins = refl;
  taken = number (mam1 s h.holder) (rests s h.holder) (mam1_taken s h.holder h.feature);
}

mam2_served : (s : Start) → HasFeature Mam1 s → Serves Mam2 s
unfolding mam2_made mam2_message kind_of mam_kind let_in
mam2_served s h = record {
  before = nothing ∷ mam1 s h.holder ∷ [];
  message = mam2 s h.holder;
  begins = refl;
  taken = number (mam2 s h.holder) (mam1_leads s h.holder h.feature)
      (mam2_taken s h.holder h.feature);
}

pub serves : (kind : Kind) (s : Start) → Takes kind s → Serves kind s
serves Tam1 s h = tam1_served s h
serves Tam2 s h = tam2_served s h
serves Iam1 s h = iam1_served s h
serves Iam2 s h = iam2_served s h
serves Iam3 s h = iam3_served s h
serves Mam1 s h = mam1_served s h
serves Mam2 s h = mam2_served s h
serves Unsupported s h = absurd h
