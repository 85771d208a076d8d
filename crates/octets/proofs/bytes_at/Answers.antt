use mathlib.Core.Path.{◌∙◌}
use Prim.Native.Nat.{ℕ}
use lib.ListN.{drop}
use Rattle.std.proofs.lemmas.List.{length-replicate}
use Rattle.octets.proofs.Parts.{bytes_drop, zeros_filled}
use Rattle.octets.proofs.bytes_at.Goals as goal

pub returns : goal.returns
returns g c =
    let s = c.args.s.now in
    let n = g.row.N in
    c.fill.ensures
    ∙ rw (c.tail.ensures, length-replicate {A = ℕ} n 0) (zeros_filled (drop c.args.at s) n ∙ bytes_drop s n c.args.at)
