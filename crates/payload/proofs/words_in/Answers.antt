-- `payload::words_in` meets its contract.
use mathlib.Core.Path.{ap, ap₂, ◌∙◌}
use mathlib.Core.List.{List}
use Prim.Native.Nat.{ℕ}
use lib.ListN.{take, drop}
use Rattle.payload.specs.Data.{words_in}
use Rattle.payload.proofs.words_in.Goals as goal

pub returns : goal.returns
unfolding words_in
returns c = let p = c.args.p.now in
    c.front.ensures ∙ ap₂ {C = List ℕ} (λ (i : ℕ) (l : List ℕ). take i l) c.data_length-n.ensures
    (c.tail.ensures ∙ ap (λ (i : ℕ). drop i p) c.header_part-h.ensures)
