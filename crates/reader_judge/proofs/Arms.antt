-- The judge by kind: what is said of each kind's reply is said of the finding by kind.
use mathlib.Core.Path.{◌≡◌, refl, sym, ap, ◌∙◌}
use mathlib.Core.Logic.{◌⊎◌, inl, inr}
use mathlib.Core.List.{List, []}
use Prim.Native.Nat.{ℕ}
use Rattle.frames.specs.declared.Kind.{Kind}
use Rattle.frames.specs.declared.Kind.TheVariants.{Tam1, Tam2, Iam1, Iam2, Iam3, Mam1, Mam2, Unsupported}
use Rattle.frames.specs.declared.Tam1.{Tam1 as Tam1Fields}
use Rattle.frames.specs.declared.Mam1.{Mam1 as Mam1Fields}
use Rattle.frames.specs.Messages.{tam1_of, tam2_of, mam1_of}
use Rattle.reader.specs.declared.Keys.{Keys}
use Rattle.reader.specs.declared.ReaderFault.TheVariants.{OwnMessage}
use Rattle.std.specs.Prelude.{Result}
use Rattle.reader.specs.declared.ReaderFault.{ReaderFault}
use Rattle.reader_judge.specs.declared.Accepted.{Accepted}
use Rattle.reader_judge.specs.Findings.{Finding, refused, nothing_more, issues, said_of, Judges}
use Rattle.reader_judge.specs.Judged.{tam1_finding, tam2_finding, iam1_finding, mam1_finding, empty_finding, by_kind}
use Rattle.reader_judge.proofs.Judging.{quiet, judges_as, line_quiet}

-- Only TAM2 brings data.
tam1_quiet : (keys : Keys) (f : Tam1Fields) (reply : List ℕ) → (tam1_finding keys f reply).bytes ≡ []
unfolding tam1_finding
tam1_quiet keys f reply = line_quiet _ nothing_more refl

mam1_quiet : (keys : Keys) (f : Mam1Fields) (reply : List ℕ) → (mam1_finding keys f reply).bytes ≡ []
unfolding mam1_finding
mam1_quiet keys f reply = line_quiet _ (issues _) refl

iam1_quiet : (reply : List ℕ) → (iam1_finding reply).bytes ≡ []
unfolding iam1_finding
iam1_quiet reply = line_quiet _ (issues reply) refl

empty_quiet : (reply : List ℕ) → (empty_finding reply).bytes ≡ []
unfolding empty_finding
empty_quiet reply = line_quiet _ nothing_more refl

module _ (keys : Keys) (m reply room : List ℕ) (kind : Kind) (r : Result Accepted ReaderFault) where
  arm : (k : Kind) (f : Finding) → kind ≡ k → by_kind keys m reply k ≡ f → f.bytes ≡ [] → r ≡ said_of f
      → Judges (by_kind keys m reply kind) room r room
  arm k f e q n s = judges_as (sym (ap (by_kind keys m reply) e ∙ q)) (quiet f room r n s)

  pub tam1_arm : (f : Tam1Fields) → kind ≡ Tam1 → f ≡ tam1_of m → r ≡ said_of (tam1_finding keys f reply)
      → Judges (by_kind keys m reply kind) room r room
  unfolding by_kind
  tam1_arm f e q s = arm Tam1 (tam1_finding keys f reply) e (ap (λ (g : Tam1Fields). tam1_finding keys g reply) (sym q))
      (tam1_quiet keys f reply) s

  pub tam2_arm : (after : List ℕ) → kind ≡ Tam2 → Judges (tam2_finding keys (tam2_of m) reply) room r after
      → Judges (by_kind keys m reply kind) room r after
  unfolding by_kind
  tam2_arm after e h = judges_as (sym (ap (by_kind keys m reply) e)) h

  pub iam1_arm : kind ≡ Iam1 → r ≡ said_of (iam1_finding reply) → Judges (by_kind keys m reply kind) room r room
  unfolding by_kind
  iam1_arm e s = arm Iam1 (iam1_finding reply) e refl (iam1_quiet reply) s

  pub empty_arm : kind ≡ Iam2 ⊎ (kind ≡ Iam3 ⊎ kind ≡ Mam2) → r ≡ said_of (empty_finding reply)
      → Judges (by_kind keys m reply kind) room r room
  unfolding by_kind
  empty_arm (inl e) s = arm Iam2 (empty_finding reply) e refl (empty_quiet reply) s
  empty_arm (inr (inl e)) s = arm Iam3 (empty_finding reply) e refl (empty_quiet reply) s
  empty_arm (inr (inr e)) s = arm Mam2 (empty_finding reply) e refl (empty_quiet reply) s

  pub mam1_arm : (f : Mam1Fields) → kind ≡ Mam1 → f ≡ mam1_of m → r ≡ said_of (mam1_finding keys f reply)
      → Judges (by_kind keys m reply kind) room r room
  unfolding by_kind
  mam1_arm f e q s = arm Mam1 (mam1_finding keys f reply) e (ap (λ (g : Mam1Fields). mam1_finding keys g reply) (sym q))
      (mam1_quiet keys f reply) s

  pub none_arm : kind ≡ Unsupported → r ≡ said_of (refused OwnMessage) → Judges (by_kind keys m reply kind) room r room
  unfolding by_kind
  none_arm e s = arm Unsupported (refused OwnMessage) e refl refl s
