-- Playing n turns and then m is playing n + m: a stop after any turn changes nothing.
use mathlib.Core.Path.{◌≡◌, refl, sym, ap, ◌∙◌}
use mathlib.Core.Bool.{Bool, true, false}
use Prim.Native.Nat.{ℕ, zero, suc, ◌+◌}
use native.Mathlib.Omega.{arith}
use lib.Dec.{eqb}
use Rattle.ground.specs.Choice.{pick}
use Rattle.modes.specs.Room.{over}
use Rattle.turns.specs.declared.Next.{Next}
use Rattle.turns.specs.declared.Next.TheVariants.{ReaderOpens, TagAnswers, ReaderCloses, TagEnds, Done}
use Rattle.turns.specs.declared.Next.TheVariants.{RefusedByTag, RefusedByReader}
use Rattle.turns.specs.Standings.{reply_zeros, readers, tags, reader_next, tag_next}
use Rattle.turns.specs.Turns.{Table, Setting, answer_in, asked_in, answered}
use Rattle.exchange.specs.Runs.{reader_run, tag_run, played_of}
use Rattle.exchange_claims.proofs.Afterwards.{reader_played, tag_played}

no_turn : (b v : Bool) → v ≡ false → pick b false v ≡ false
no_turn true v e = refl
no_turn false v e = e

one_half : (n : Next) → tags n ≡ true → readers n ≡ false
unfolding tags readers
one_half ReaderOpens e = sym e
one_half TagAnswers e = refl
one_half ReaderCloses e = sym e
one_half TagEnds e = refl
one_half Done e = refl
one_half (RefusedByTag f) e = refl
one_half (RefusedByReader f) e = refl

either_half : (b : Bool) (n : Next) → pick b false (tags n) ≡ true → pick b false (readers n) ≡ false
either_half true n e = refl
either_half false n e = one_half n e

-- ---- one turn, whoever is next; and turn by turn

module _ (x : Setting) where
  abbrev pub tagged : Table → Table
  tagged t = answered x.plan x.keys x.draws t

  abbrev pub readered : Table → Table
  readered t = asked_in x.plan x.words t

  -- One turn, of the half that is next. Where none is, nothing changes.
  unfoldable pub one_turn : Table → Table
  one_turn t = pick (tag_next t.standing) (tagged t) (pick (reader_next t.standing) (readered t) t)

  unfoldable pub by_turns : ℕ → Table → Table
  by_turns zero t = t
  by_turns (suc n) t = by_turns n (one_turn t)

  pub settled_turn : (t : Table) → tag_next t.standing ≡ false → reader_next t.standing ≡ false → one_turn t ≡ t
  unfolding one_turn
  settled_turn t p q =
      ap (λ (b : Bool). pick b (tagged t) (pick (reader_next t.standing) (readered t) t)) p
      ∙ ap (λ (b : Bool). pick b (readered t) t) q

  pub settled_turns : (n : ℕ) (t : Table) → one_turn t ≡ t → by_turns n t ≡ t
  unfolding by_turns
  settled_turns zero t e = refl
  settled_turns (suc n) t e = ap (by_turns n) e ∙ settled_turns n t e

  pub reader_turn : (t : Table) → tag_next t.standing ≡ false → reader_next t.standing ≡ true
      → one_turn t ≡ readered t
  unfolding one_turn
  reader_turn t p q =
      ap (λ (b : Bool). pick b (tagged t) (pick (reader_next t.standing) (readered t) t)) p
      ∙ ap (λ (b : Bool). pick b (readered t) t) q

  pub tag_turn : (t : Table) → tag_next t.standing ≡ true → one_turn t ≡ tagged t
  unfolding one_turn
  tag_turn t p = ap (λ (b : Bool). pick b (tagged t) (pick (reader_next t.standing) (readered t) t)) p

  reader_after : (t : Table) → reader_next (readered t).standing ≡ false
  unfolding asked_in
  reader_after t =
      no_turn (eqb (readered t).standing.left 0) (readers (readered t).standing.next)
      (reader_played x.plan x.words t.standing t.standing.next refl)

  tag_after : (t : Table) → tag_next (tagged t).standing ≡ false
  unfolding answered
  tag_after t =
      let a = answer_in x.keys x.draws t in
      no_turn (eqb (tagged t).standing.left 0) (tags (tagged t).standing.next)
      (tag_played x.plan t.standing (over a.reply reply_zeros) a.outcome)

  -- The halves by turns play one turn after the other.
  pub record Alternates (n : ℕ) : Type 0 where
    pub by_reader : (t : Table) → tag_next t.standing ≡ false → reader_run x n t ≡ by_turns n t
    pub by_tag : (t : Table) → reader_next t.standing ≡ false → tag_run x n t ≡ by_turns n t

  by_reader_lem : (n : ℕ) (t : Table) (b : Bool) → reader_next t.standing ≡ b → Alternates n
      → tag_next t.standing ≡ false
      → pick b (tag_run x n (readered t)) t ≡ by_turns (suc n) t
  unfolding by_turns
  by_reader_lem n t true q a p = a.by_tag (readered t) (reader_after t) ∙ ap (by_turns n) (sym (reader_turn t p q))
  by_reader_lem n t false q a p = sym (settled_turns (suc n) t (settled_turn t p q))

  by_tag_lem : (n : ℕ) (t : Table) (b : Bool) → tag_next t.standing ≡ b → Alternates n
      → reader_next t.standing ≡ false
      → pick b (reader_run x n (tagged t)) t ≡ by_turns (suc n) t
  unfolding by_turns
  by_tag_lem n t true q a p = a.by_reader (tagged t) (tag_after t) ∙ ap (by_turns n) (sym (tag_turn t q))
  by_tag_lem n t false q a p = sym (settled_turns (suc n) t (settled_turn t q p))

  pub alternates : (n : ℕ) → Alternates n
  unfolding reader_run by_turns
  alternates zero = record { by_reader = λ t p. refl; by_tag = λ t p. refl }
  alternates (suc n) = record {
    by_reader = λ t p. by_reader_lem n t (reader_next t.standing) refl (alternates n) p;
    by_tag = λ t p. by_tag_lem n t (tag_next t.standing) refl (alternates n) p;
  }

  of_either : (n : ℕ) (t : Table) (b : Bool) → tag_next t.standing ≡ b
      → pick b (tag_run x n t) (reader_run x n t) ≡ by_turns n t
  of_either n t true e = (alternates n).by_tag t (either_half (eqb t.standing.left 0) t.standing.next e)
  of_either n t false e = (alternates n).by_reader t e

  pub played_turns : (n : ℕ) (t : Table) → played_of x n t ≡ by_turns n t
  unfolding played_of
  played_turns n t = of_either n t (tag_next t.standing) refl

  pub turns_plus : (n m : ℕ) (t : Table) → by_turns m (by_turns n t) ≡ by_turns (n + m) t
  unfolding by_turns
  turns_plus zero m t = let e : m ≡ 0 + m = omega arith in ap (λ (k : ℕ). by_turns k t) e
  turns_plus (suc n) m t =
      let e : suc (n + m) ≡ suc n + m = omega arith in
      turns_plus n m (one_turn t) ∙ ap (λ (k : ℕ). by_turns k t) e

  -- A stop after n turns changes nothing.
  pub played_plus : (n m : ℕ) (t : Table) → played_of x m (played_of x n t) ≡ played_of x (n + m) t
  played_plus n m t =
      played_turns m (played_of x n t) ∙ ap (by_turns m) (played_turns n t) ∙ turns_plus n m t
      ∙ sym (played_turns (n + m) t)

  -- Where nobody is next, nothing changes, however many turns are played.
  pub settled_stays : (n : ℕ) (t : Table) → tag_next t.standing ≡ false → reader_next t.standing ≡ false
      → played_of x n t ≡ t
  settled_stays n t p q = played_turns n t ∙ settled_turns n t (settled_turn t p q)
