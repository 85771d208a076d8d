-- No exchange takes more than four turns, and no TAM more than two, whatever the limit.
use Rattle.offer.specs.Outcomes.{Outcome}
use mathlib.Core.Path.{◌≡◌, refl, sym, ap, subst, ◌∙◌}
use mathlib.Core.Bool.{Bool, true, false}
use mathlib.Core.List.{List}
use Prim.Native.Nat.{ℕ, zero, suc, ◌+◌, ◌≤◌}
use native.Mathlib.Omega.{arith}
use borrow.Author.Tests.{leb-true}
use lib.Dec.{leb, eqb}
use Rattle.ground.specs.Choice.{pick}
use Rattle.modes.specs.Room.{over}
use Rattle.plan.specs.declared.Plan.{Plan}
use Rattle.turns.specs.declared.Next.{Next}
use Rattle.turns.specs.declared.Next.TheVariants.{ReaderOpens, TagAnswers, ReaderCloses, TagEnds, Done}
use Rattle.turns.specs.declared.Next.TheVariants.{RefusedByTag, RefusedByReader}
use Rattle.turns.specs.declared.Standing.{Standing}
use Rattle.turns.specs.Standings.{reply_zeros, readers, tags, reader_next, tag_next, has_two, ends_with}
use Rattle.plan.specs.Drafts.{opening}
use Rattle.turns.specs.Sends.{sends}
use Rattle.turns.specs.Turns.{Table, Setting, finding_in, meets, asked, asked_in, opened, closed, replied}
use Rattle.turns.specs.Turns.{answer_in, answered}
use Rattle.exchange.specs.Runs.{played_of}
use Rattle.exchange_claims.proofs.Afterwards.{sends_next, meets_next, replied_next}
use Rattle.exchange_claims.proofs.Stepping.{one_turn, by_turns, tagged, readered, reader_turn, tag_turn}
use Rattle.exchange_claims.proofs.Stepping.{settled_turn, settled_turns, settled_stays, played_turns}
use Rattle.exchange_claims.proofs.Stepping.{played_plus}

-- How many turns an exchange can still take, of a method that has two or not.
unfoldable pub to_come : Next → Bool → ℕ
to_come ReaderOpens two = pick two 2 4
to_come TagAnswers two = pick two 1 3
to_come ReaderCloses two = 2
to_come TagEnds two = 1
to_come Done two = 0
to_come (RefusedByTag f) two = 0
to_come (RefusedByReader f) two = 0

never : false ≡ true → ⊥
never e = let z : ◌≡◌ {A = ℕ} 0 1 = cc in absurd (omega arith)

-- at most n turns are to come
abbrev at_most : ℕ → Bool → Next → Bool
at_most n two k = leb (to_come k two) n

-- ---- each turn that is played leaves fewer

reader_fewer : (p : Plan) (words : List ℕ) (s : Standing) (k : Next) (two : Bool) (n : ℕ) → readers k ≡ true
    → to_come k two ≤ suc n → to_come (asked p words s k).next two ≤ n
unfolding asked opened closed readers to_come
reader_fewer p words s ReaderOpens true n e h =
    let d = opening p p.method in
    let q : to_come (sends TagAnswers s d).next true ≤ 1 =
    leb-true _ _ (sends_next (at_most 1 true) true (λ f. refl) TagAnswers s d refl) in
    omega (arith, q, h)
reader_fewer p words s ReaderOpens false n e h =
    let d = opening p p.method in
    let q : to_come (sends TagAnswers s d).next false ≤ 3 =
    leb-true _ _ (sends_next (at_most 3 false) true (λ f. refl) TagAnswers s d refl) in
    omega (arith, q, h)
reader_fewer p words s TagAnswers two n e h = absurd (never e)
reader_fewer p words s ReaderCloses two n e h =
    let f = finding_in p s s.reply in
    let q : to_come (meets p words f.challenge s f.verdict).next two ≤ 1 =
    leb-true _ _ (meets_next (at_most 1 two) true (λ f. refl) p words f.challenge s f.verdict refl) in
    omega (arith, q, h)
reader_fewer p words s TagEnds two n e h = absurd (never e)
reader_fewer p words s Done two n e h = absurd (never e)
reader_fewer p words s (RefusedByTag f) two n e h = absurd (never e)
reader_fewer p words s (RefusedByReader f) two n e h = absurd (never e)

module _ (p : Plan) (s : Standing) (room : List ℕ) (o : Outcome) where
  -- a reply that ends the exchange
  last_reply : (two : Bool) → ends_with s.next p.method ≡ true → to_come (replied p s room o).next two ≤ 0
  unfolding to_come
  last_reply two last =
      leb-true _ _ (replied_next (at_most 0 two) true (λ f. refl) p s refl (λ w. absurd (never (sym w ∙ last))) room o
      (λ f. refl))

  tag_fewer : (k : Next) (two : Bool) (n : ℕ) → s.next ≡ k → has_two p.method ≡ two → tags k ≡ true
      → to_come k two ≤ suc n → to_come (replied p s room o).next two ≤ n
  unfolding tags to_come ends_with
  tag_fewer ReaderOpens two n q m e h = absurd (never e)
  tag_fewer TagAnswers true n q m e h =
      let last = ap (λ (x : Next). ends_with x p.method) q ∙ m in
      let r : to_come (replied p s room o).next true ≤ 0 = last_reply true last in
      omega (arith, r)
  tag_fewer TagAnswers false n q m e h =
      let r : to_come (replied p s room o).next false ≤ 2 =
      leb-true _ _ (replied_next (at_most 2 false) true (λ f. refl) p s refl (λ w. refl) room o (λ f. refl)) in
      omega (arith, r, h)
  tag_fewer ReaderCloses two n q m e h = absurd (never e)
  tag_fewer TagEnds two n q m e h =
      let last = ap (λ (x : Next). ends_with x p.method) q in
      let r : to_come (replied p s room o).next two ≤ 0 = last_reply two last in
      omega (arith, r)
  tag_fewer Done two n q m e h = absurd (never e)
  tag_fewer (RefusedByTag f) two n q m e h = absurd (never e)
  tag_fewer (RefusedByReader f) two n q m e h = absurd (never e)

none_to_come : (k : Next) (two : Bool) → to_come k two ≤ 0 → (tags k ≡ false) × (readers k ≡ false)
unfolding to_come tags readers
none_to_come ReaderOpens true h = absurd (omega (arith, h))
none_to_come ReaderOpens false h = absurd (omega (arith, h))
none_to_come TagAnswers true h = absurd (omega (arith, h))
none_to_come TagAnswers false h = absurd (omega (arith, h))
none_to_come ReaderCloses two h = absurd (omega (arith, h))
none_to_come TagEnds two h = absurd (omega (arith, h))
none_to_come Done two h = (refl, refl)
none_to_come (RefusedByTag f) two h = (refl, refl)
none_to_come (RefusedByReader f) two h = (refl, refl)

four_to_come : (k : Next) (two : Bool) → to_come k two ≤ 4
unfolding to_come
four_to_come ReaderOpens true = omega arith
four_to_come ReaderOpens false = omega arith
four_to_come TagAnswers true = omega arith
four_to_come TagAnswers false = omega arith
four_to_come ReaderCloses two = omega arith
four_to_come TagEnds two = omega arith
four_to_come Done two = omega arith
four_to_come (RefusedByTag f) two = omega arith
four_to_come (RefusedByReader f) two = omega arith

no_turn : (b v : Bool) → v ≡ false → pick b false v ≡ false
no_turn true v e = refl
no_turn false v e = e

a_turn : (b v : Bool) → pick b false v ≡ true → v ≡ true
a_turn true v e = absurd (never e)
a_turn false v e = e

-- ---- after as many turns nobody is next

-- Nobody is next: the exchange has ended, or its limit is used up.
pub record Settled (t : Table) : Type 0 where
  pub not_tag : tag_next t.standing ≡ false
  pub not_reader : reader_next t.standing ≡ false

module _ (x : Setting) where
  abbrev two : Bool
  two = has_two x.plan.method

  -- How many turns are to come, of what stands on a table.
  abbrev pub ahead : Table → ℕ
  ahead t = to_come t.standing.next two

  -- by who is next
  module _ (n : ℕ) (t : Table) (h : ahead t ≤ suc n)
      (later : (u : Table) → ahead u ≤ n → Settled (by_turns x n u)) where
    after_tag : tag_next t.standing ≡ true → Settled (by_turns x n (one_turn x t))
    unfolding answered
    after_tag e =
        let k = t.standing.next in
        let a = answer_in x.keys x.draws t in
        subst (λ (u : Table). Settled (by_turns x n u)) (sym (tag_turn x t e))
        (later (tagged x t)
        (tag_fewer x.plan t.standing (over a.reply reply_zeros) a.outcome k two n refl refl
        (a_turn (eqb t.standing.left 0) (tags k) e) h))

    after_reader : (b : Bool) → tag_next t.standing ≡ false → reader_next t.standing ≡ b
        → Settled (by_turns x n (one_turn x t))
    unfolding asked_in
    after_reader true q e =
        let k = t.standing.next in
        subst (λ (u : Table). Settled (by_turns x n u)) (sym (reader_turn x t q e))
        (later (readered x t)
        (reader_fewer x.plan x.words t.standing k two n (a_turn (eqb t.standing.left 0) (readers k) e)
        h))
    after_reader false q e =
        let same = settled_turn x t q e in
        subst Settled (sym (ap (by_turns x n) same ∙ settled_turns x n t same)) (record { not_tag = q; not_reader = e })

    after_either : (b : Bool) → tag_next t.standing ≡ b → Settled (by_turns x n (one_turn x t))
    after_either true e = after_tag e
    after_either false e = after_reader (reader_next t.standing) e refl

  turns_settle : (n : ℕ) (t : Table) → ahead t ≤ n → Settled (by_turns x n t)
  unfolding by_turns
  turns_settle zero t h =
      let e = none_to_come t.standing.next two h in
      record {
        not_tag = no_turn (eqb t.standing.left 0) (tags t.standing.next) e.0;
        not_reader = no_turn (eqb t.standing.left 0) (readers t.standing.next) e.1;
      }
  turns_settle (suc n) t h = after_either n t h (turns_settle n) (tag_next t.standing) refl

  -- After as many turns as are to come nobody is next, and no turn more is played.
  pub settles : (k : ℕ) (t : Table) → ahead t ≤ k → Settled (played_of x k t)
  settles k t h = subst Settled (sym (played_turns x k t)) (turns_settle k t h)

  pub never_more : (k n : ℕ) (t : Table) → ahead t ≤ k → played_of x (k + n) t ≡ played_of x k t
  never_more k n t h =
      let s = settles k t h in
      sym (played_plus x k n t) ∙ settled_stays x n (played_of x k t) s.not_tag s.not_reader

  -- A fifth turn is never played.
  pub never_a_fifth : (n : ℕ) (t : Table) → played_of x (4 + n) t ≡ played_of x 4 t
  never_a_fifth n t = never_more 4 n t (four_to_come t.standing.next two)

  -- In TAM a third turn is never played.
  pub never_a_third : (n : ℕ) (t : Table) → two ≡ true → t.standing.next ≡ ReaderOpens
      → played_of x (2 + n) t ≡ played_of x 2 t
  unfolding to_come
  never_a_third n t m e =
      let h : ahead t ≡ 2 = ap (λ (k : Next). to_come k two) e ∙ ap (λ (b : Bool). pick b 2 4) m in
      never_more 2 n t (omega (arith, h))
