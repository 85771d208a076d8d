-- Number 40, exactly: what a limit comes to.
use mathlib.Core.Path.{◌≡◌, ap, ◌∙◌}
use mathlib.Core.Bool.{Bool, false}
use Prim.Native.Nat.{ℕ, ◌≤◌, ◌<◌}
use borrow.Author.Tests.{eq-eqb, ne_eqb, le-leb, lt-leb}
use lib.Dec.{leb}
use Rattle.ground.specs.Choice.{pick}
use Rattle.turns.specs.declared.Begun.{Begun}
use Rattle.turns.specs.Standings.{fresh, unbegun, limit_fits, begun_of}

module _ (limit : ℕ) where
  abbrev taken : Begun
  taken = record { number = 0; standing = fresh limit }

  abbrev by : Bool → Begun
  by b = pick b taken unbegun

  pub limit_none : limit ≡ 0 → begun_of limit ≡ unbegun
  unfolding begun_of limit_fits
  limit_none e = ap (λ (b : Bool). by (pick b false (leb limit 64))) (eq-eqb limit 0 e)

  some : (limit ≡ 0 → ⊥) → begun_of limit ≡ by (leb limit 64)
  unfolding begun_of limit_fits
  some h = ap (λ (b : Bool). by (pick b false (leb limit 64))) (ne_eqb limit 0 h)

  pub limit_over : (limit ≡ 0 → ⊥) → 64 < limit → begun_of limit ≡ unbegun
  limit_over h e = some h ∙ ap by (lt-leb limit 64 e)

  pub limit_taken : (limit ≡ 0 → ⊥) → limit ≤ 64 → begun_of limit ≡ taken
  limit_taken h e = some h ∙ ap by (le-leb limit 64 e)
