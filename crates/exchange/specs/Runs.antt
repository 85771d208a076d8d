-- Turn after turn (M-100): the reader's turn hands over to the tag's turn and back, and the number of turns to play
-- falls by one each time. Where a half is not next, it plays no turn.
use Rattle.std.specs.Prelude.{ℕ, zero, suc}
use Rattle.ground.specs.Choice.{pick}
use Rattle.turns.specs.Standings.{reader_next, tag_next}
use Rattle.turns.specs.Turns.{Table, Setting, asked_in, answered}

unfoldable mutual
  pub reader_run : Setting → ℕ → Table → Table
  reader_run x zero t = t
  reader_run x (suc n) t = pick (reader_next t.standing) (tag_run x n (asked_in x.plan x.words t)) t

  pub tag_run : Setting → ℕ → Table → Table
  tag_run x zero t = t
  tag_run x (suc n) t =
      pick (tag_next t.standing) (reader_run x n (answered x.plan x.keys x.draws t)) t

-- So many turns, whoever is next.
unfoldable pub played_of : Setting → ℕ → Table → Table
played_of x n t = pick (tag_next t.standing) (tag_run x n t) (reader_run x n t)
