-- The kind of each of the 256 first bytes, computed once.
use mathlib.Core.Path.{◌≡◌, refl, sym, ap, ◌∙◌, subst}
use mathlib.Core.Bool.{Bool, true}
use Prim.Native.Nat.{ℕ, zero, suc, ◌≤◌, ◌<◌}
use lib.Dec.{T, eqb, leb, ltb, eqb→eq, leb→le, ltb→lt}
use native.Mathlib.Omega.{arith}
use borrow.Author.Tests.{le-leb, lt-ltb}
use Rattle.ground.specs.Choice.{pick, both}
use Rattle.frames.specs.Kinds.{kind_of, tam_kind, iam_kind, mam_kind, table_kind}
use Rattle.frames.specs.declared.Kind.{Kind}
use Rattle.frames.specs.declared.Kind.TheVariants.{Tam1, Tam2, Iam1, Iam2, Iam3, Mam1, Mam2, Unsupported}
use Rattle.frames.proofs.Tests.{t_left, t_right, every, at_bytes}

-- kinds as numbers, and back
abbrev place : Kind → ℕ
place Tam1 = 0
place Tam2 = 1
place Iam1 = 2
place Iam2 = 3
place Iam3 = 4
place Mam1 = 5
place Mam2 = 6
place Unsupported = 7

abbrev at_place : ℕ → Kind
at_place zero = Tam1
at_place (suc zero) = Tam2
at_place (suc (suc zero)) = Iam1
at_place (suc (suc (suc zero))) = Iam2
at_place (suc (suc (suc (suc zero)))) = Iam3
at_place (suc (suc (suc (suc (suc zero))))) = Mam1
at_place (suc (suc (suc (suc (suc (suc zero)))))) = Mam2
at_place (suc (suc (suc (suc (suc (suc (suc n))))))) = Unsupported

there_and_back : (k : Kind) → at_place (place k) ≡ k
there_and_back Tam1 = refl
there_and_back Tam2 = refl
there_and_back Iam1 = refl
there_and_back Iam2 = refl
there_and_back Iam3 = refl
there_and_back Mam1 = refl
there_and_back Mam2 = refl
there_and_back Unsupported = refl

same : ℕ → Bool
same b = eqb (place (kind_of b)) (place (table_kind b))

-- the definition by fields is the table by ranges
pub kind_table : (b : ℕ) → b < 256 → kind_of b ≡ table_kind b
unfolding kind_of tam_kind iam_kind mam_kind table_kind same
kind_table b h =
    sym (there_and_back (kind_of b)) ∙ ap at_place (eqb→eq (place (kind_of b)) (place (table_kind b))
    (at_bytes same tt b h)) ∙ there_and_back (table_kind b)

-- the first bytes of a kind: from the first on, below the second
abbrev pub low : Kind → ℕ
low Tam1 = 0x00
low Tam2 = 0x20
low Iam1 = 0x40
low Iam2 = 0x50
low Iam3 = 0x58
low Mam1 = 0x80
low Mam2 = 0x90
low Unsupported = 0x60

abbrev pub high : Kind → ℕ
high Tam1 = 0x20
high Tam2 = 0x40
high Iam1 = 0x50
high Iam2 = 0x58
high Iam3 = 0x60
high Mam1 = 0x90
high Mam2 = 0xA0
high Unsupported = 0x100

within : ℕ → Bool
within b = both (leb (low (kind_of b)) b) (ltb b (high (kind_of b)))

pub kind_range : (b : ℕ) (k : Kind) → b < 256 → kind_of b ≡ k → (low k ≤ b) × (b < high k)
unfolding kind_of tam_kind iam_kind mam_kind within
kind_range b k h e =
    let t = at_bytes within tt b h in (
      subst (λ (j : Kind). low j ≤ b) e (leb→le (low (kind_of b)) b
          (t_left (leb (low (kind_of b)) b) (ltb b (high (kind_of b))) t)),
      subst (λ (j : Kind). b < high j) e (ltb→lt b (high (kind_of b))
          (t_right (leb (low (kind_of b)) b) (ltb b (high (kind_of b))) t)),
    )

-- and each byte in that range is of the kind; for every kind but Unsupported, whose bytes are not one range
inside : Kind → ℕ → Bool
inside k b = pick (both (leb (low k) b) (ltb b (high k))) (eqb (place (kind_of b)) (place k)) true

kind_inside : (k : Kind) → T (every (inside k) 0 256) → high k ≤ 256 → (b : ℕ) → low k ≤ b → b < high k → kind_of b ≡ k
unfolding inside
kind_inside k t top b l h =
    let s : T (inside k b) = at_bytes (inside k) t b (omega arith) in
    let e : T (eqb (place (kind_of b)) (place k)) = simp (le-leb (low k) b l, lt-ltb b (high k) h) at s in
    sym (there_and_back (kind_of b)) ∙ ap at_place (eqb→eq (place (kind_of b)) (place k) e) ∙ there_and_back k

module _ (b : ℕ) where
  pub tam1_kind : b < 0x20 → kind_of b ≡ Tam1
  unfolding kind_of tam_kind iam_kind mam_kind inside
  tam1_kind h = kind_inside Tam1 tt (omega arith) b (omega arith) h

  pub tam2_kind : 0x20 ≤ b → b < 0x40 → kind_of b ≡ Tam2
  unfolding kind_of tam_kind iam_kind mam_kind inside
  tam2_kind l h = kind_inside Tam2 tt (omega arith) b l h

  pub iam1_kind : 0x40 ≤ b → b < 0x50 → kind_of b ≡ Iam1
  unfolding kind_of tam_kind iam_kind mam_kind inside
  iam1_kind l h = kind_inside Iam1 tt (omega arith) b l h

  pub iam2_kind : 0x50 ≤ b → b < 0x58 → kind_of b ≡ Iam2
  unfolding kind_of tam_kind iam_kind mam_kind inside
  iam2_kind l h = kind_inside Iam2 tt (omega arith) b l h

  pub iam3_kind : 0x58 ≤ b → b < 0x60 → kind_of b ≡ Iam3
  unfolding kind_of tam_kind iam_kind mam_kind inside
  iam3_kind l h = kind_inside Iam3 tt (omega arith) b l h

  pub mam1_kind : 0x80 ≤ b → b < 0x90 → kind_of b ≡ Mam1
  unfolding kind_of tam_kind iam_kind mam_kind inside
  mam1_kind l h = kind_inside Mam1 tt (omega arith) b l h

  pub mam2_kind : 0x90 ≤ b → b < 0xA0 → kind_of b ≡ Mam2
  unfolding kind_of tam_kind iam_kind mam_kind inside
  mam2_kind l h = kind_inside Mam2 tt (omega arith) b l h
