-- `payload::filler_fits` meets its contract.
use mathlib.Core.Path.{ap, ap₂, ◌∙◌}
use mathlib.Core.List.{List}
use Prim.Native.Nat.{ℕ, ◌+◌}
use lib.ListN.{drop}
use lib.Seq.{drop-drop}
use Rattle.octets.specs.Alike.{all_zero}
use Rattle.frames.specs.Blocks.{carried}
use Rattle.payload.specs.Data.{filler_fits}
use Rattle.payload.proofs.filler_fits.Goals as goal

pub returns : goal.returns
unfolding filler_fits carried
returns c = let p = c.args.p.now in
    let h = c.header_part-h in
    let n = c.data_length-n in
    c.zeros.ensures
    ∙ ap all_zero (c.tail-2.ensures ∙ ap (drop n.result) c.tail.ensures
    ∙ drop-drop n.result h.result p ∙ ap₂ {C = List ℕ} (λ (i j : ℕ). drop (i + j) p) h.ensures
    n.ensures)
