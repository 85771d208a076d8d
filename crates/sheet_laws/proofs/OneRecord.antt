-- One record in front of the bytes behind it: one too many, refused for its values, or taken; and the end record.
use Rattle.std.specs.Prelude.{Some, Err}
use mathlib.Core.Path.{◌≡◌, ap, ◌∙◌}
use mathlib.Core.Bool.{true, false}
use mathlib.Core.List.{List, [], ◌∷◌, ◌++◌}
use Prim.Native.Nat.{ℕ, ◌+◌, ◌≤◌}
use native.Mathlib.Omega.{arith}
use lib.ListN.{length, length-append}
use lib.Seq.{take_at, drop_at}
use borrow.Author.Tests.{le-leb, le-ltb, ne_eqb}
use Rattle.sheet.specs.Kinds.{kind_of, body_length, in_order}
use Rattle.sheet.specs.Judgement.{too_many, opened_of, taken, record_of, judged_of}
use Rattle.sheet.specs.Sheet.{ends, after, walk, refused_at}
use Rattle.sheet.specs.declared.Kind.{Kind}
use Rattle.sheet.specs.declared.SheetFault.TheVariants.{Value, Many}
use Rattle.sheet.specs.declared.Gathered.{Gathered}
use Rattle.sheet.specs.declared.Judged.{Judged}
use Rattle.sheet.proofs.Walks.{pass, walk_faulty}

-- a kind from 03 on may follow each that is not above it
pub order_on : (last b : ℕ) → 2 ≤ last → last ≤ b → 3 ≤ b → in_order last b ≡ true
unfolding in_order
order_on last b l h t =
    let n0 = ne_eqb last 0 (λ e. (let z : ⊥ = omega arith in z)) in
    let n1 = ne_eqb last 1 (λ e. (let z : ⊥ = omega arith in z)) in
    rw (n0, n1, le-leb 3 b t) (le-leb last b h)

-- One record of kind q with the body c, in front of r, that the checks before its values let through.
module _ (limit b : ℕ) (q : Kind) (c r : List ℕ) (k : Gathered) (eq : kind_of b ≡ Some q)
    (order : in_order k.marks.last b ≡ true) (few : too_many limit q k ≡ false) (long : length c ≡ body_length q) where
  fits : body_length q ≤ length (c ++ r)
  fits = rw (length-append c r) (omega arith)

  judged : judged_of limit (b ∷ c ++ r) k ≡ record_of q c k
  unfolding judged_of opened_of
  judged =
      rw (eq, order, few, le-ltb (length (c ++ r)) (body_length q) fits, take_at c r (body_length q) long)

  -- it is refused for its values
  pub stop_at : (at : ℕ) → (record_of q c k).finding ≡ Err Value
      → walk limit (b ∷ c ++ r) 0 at k ≡ refused_at Value at
  stop_at at e = walk_faulty limit at k (b ∷ c ++ r) Value (ap (λ (j : Judged). j.finding) judged ∙ e)

-- or taken
module _ (limit b : ℕ) (q : Kind) (c r : List ℕ) (k k' : Gathered) (eq : kind_of b ≡ Some q)
    (order : in_order k.marks.last b ≡ true) (few : too_many limit q k ≡ false) (long : length c ≡ body_length q)
    (takes : record_of q c k ≡ taken q k') where
  pub go_on : (at : ℕ) → walk limit (b ∷ c ++ r) 0 at k ≡ walk limit r 0 (at + 1 + body_length q) k'
  unfolding walk after
  go_on at =
      rw (
        judged limit b q c r k eq order few long ∙ takes,
        eq,
        pass limit (body_length q) (c ++ r) (at + 1) k' (fits limit b q c r k eq order few long),
        drop_at c r (body_length q) long,
      )

-- a record of a kind of which there are as many as there may be
pub one_too_many : (limit b : ℕ) (q : Kind) (at : ℕ) (k : Gathered) (t : List ℕ) → kind_of b ≡ Some q
    → in_order k.marks.last b ≡ true → too_many limit q k ≡ true
    → walk limit (b ∷ t) 0 at k ≡ refused_at Many at
unfolding walk after judged_of opened_of
one_too_many limit b q at k t u o m = rw (u, o, m)

-- the end record
pub end_walk : (limit at : ℕ) (k : Gathered) → 2 ≤ k.marks.last → k.marks.last ≤ 5
    → walk limit (6 ∷ []) 0 at k ≡ ends k
unfolding walk after judged_of opened_of kind_of too_many record_of
end_walk limit at k l h = rw (order_on k.marks.last 6 l (omega arith) (omega arith))
