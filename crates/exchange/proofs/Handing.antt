-- A run with no turn to play, one in which another is next, and a run's first turn.
use mathlib.Core.Path.{◌≡◌, refl, sym, subst}
use mathlib.Core.Bool.{Bool, true, false}
use mathlib.Core.List.{List}
use Prim.Native.Nat.{ℕ, zero, suc, ◌-◌}
use native.Mathlib.Omega.{arith}
use Rattle.ground.specs.Choice.{pick}
use Rattle.tag.specs.declared.Tag.{Tag}
use Rattle.turns.specs.declared.Standing.{Standing}
use Rattle.turns.specs.declared.Played.{Played}
use Rattle.turns.specs.Standings.{reader_next, tag_next}
use Rattle.turns.specs.Turns.{Table, Setting, table, Plays, asked, asked_in, answered}
use Rattle.exchange.specs.Runs.{reader_run, tag_run, played_of}

-- what is returned and left, as the table of the next turn
left_as : (t : Table) (r : Played) (i u : List ℕ) → Plays t r i u → table r.standing r.tag i u ≡ t
left_as t r i u h =
    λ k. record { standing = h.standing k; tag = h.tag k; identity = h.identity k; user = h.user k }

plays_as : (t v : Table) (r : Played) (i u : List ℕ) → t ≡ v → Plays t r i u → Plays v r i u
plays_as t v r i u e h = subst (λ (x : Table). Plays x r i u) e h

module _ (x : Setting) (s : Standing) (tag : Tag) (i u : List ℕ) where
  abbrev now : Table
  now = table s tag i u

  abbrev same : Played
  same = record { standing = s; tag = tag }

  stays : Plays now same i u
  stays = record { standing = refl; tag = refl; identity = refl; user = refl }

  pub reader_stops : (n : ℕ) → n ≡ 0 → Plays (reader_run x n now) same i u
  unfolding reader_run
  reader_stops n e = subst (λ (k : ℕ). Plays (reader_run x k now) same i u) (sym e) stays

  pub tag_stops : (n : ℕ) → n ≡ 0 → Plays (tag_run x n now) same i u
  unfolding reader_run
  tag_stops n e = subst (λ (k : ℕ). Plays (tag_run x k now) same i u) (sym e) stays

  pub reader_waits : (n : ℕ) → reader_next s ≡ false → Plays (reader_run x n now) same i u
  unfolding reader_run
  reader_waits zero e = stays
  reader_waits (suc n) e =
      subst (λ (b : Bool). Plays (pick b (tag_run x n (asked_in x.plan x.words now)) now) same i u) (sym e) stays

  pub tag_waits : (n : ℕ) → tag_next s ≡ false → Plays (tag_run x n now) same i u
  unfolding reader_run
  tag_waits zero e = stays
  tag_waits (suc n) e =
      subst (λ (b : Bool). Plays (pick b (reader_run x n (answered x.plan x.keys x.draws now)) now) same i u)
      (sym e) stays

  pub reader_goes : (n : ℕ) (after : Standing) (r : Played) (j w : List ℕ) → (n ≡ 0 → ⊥) → reader_next s ≡ true
      → after ≡ asked x.plan x.words s s.next → Plays (tag_run x (n - 1) (table after tag i u)) r j w
      → Plays (reader_run x n now) r j w
  unfolding reader_run asked_in
  reader_goes zero after r j w p b e h = absurd (p refl)
  reader_goes (suc n) after r j w p b e h =
      let m : suc n - 1 ≡ n = omega arith in
      subst (λ (c : Bool). Plays (pick c (tag_run x n (asked_in x.plan x.words now)) now) r j w) (sym b)
      (subst (λ (y : Standing). Plays (tag_run x n (table y tag i u)) r j w) e
      (subst (λ (k : ℕ). Plays (tag_run x k (table after tag i u)) r j w) m h))

  pub tag_goes : (n : ℕ) (a r : Played) (j w y z : List ℕ) → (n ≡ 0 → ⊥) → tag_next s ≡ true
      → Plays (answered x.plan x.keys x.draws now) a y z
      → Plays (reader_run x (n - 1) (table a.standing a.tag y z)) r j w
      → Plays (tag_run x n now) r j w
  unfolding reader_run
  tag_goes zero a r j w y z p b e h = absurd (p refl)
  tag_goes (suc n) a r j w y z p b e h =
      let m : suc n - 1 ≡ n = omega arith in
      subst (λ (c : Bool). Plays (pick c (reader_run x n (answered x.plan x.keys x.draws now)) now) r j w)
      (sym b)
      (subst (λ (v : Table). Plays (reader_run x n v) r j w) (left_as _ a y z e)
      (subst (λ (k : ℕ). Plays (reader_run x k (table a.standing a.tag y z)) r j w) m h))

  pub plays_tag : (n : ℕ) (r : Played) (j w : List ℕ) → tag_next s ≡ true → Plays (tag_run x n now) r j w
      → Plays (played_of x n now) r j w
  unfolding played_of
  plays_tag n r j w b h =
      subst (λ (c : Bool). Plays (pick c (tag_run x n now) (reader_run x n now)) r j w) (sym b) h

  pub plays_reader : (n : ℕ) (r : Played) (j w : List ℕ) → tag_next s ≡ false → Plays (reader_run x n now) r j w
      → Plays (played_of x n now) r j w
  unfolding played_of
  plays_reader n r j w b h =
      subst (λ (c : Bool). Plays (pick c (tag_run x n now) (reader_run x n now)) r j w) (sym b) h
