-- `entry::opened::write` meets its contract.
use mathlib.Core.Path.{ap, ◌∙◌}
use mathlib.Core.List.{List}
use Prim.Native.Nat.{ℕ}
use Rattle.memory.specs.declared.Area.TheVariants.{Identity, User}
use Rattle.memory.specs.Areas.{stored_in}
use Rattle.entry.proofs.opened.write.Goals as goal

pub returns : goal.returns
returns c = let e = c.words_in.ensures in (
  c.store.ensures.0 ∙ ap (λ (l : List ℕ). stored_in Identity c.args.block l c.args.identity.now) e,
  c.store.ensures.1 ∙ ap (λ (l : List ℕ). stored_in User c.args.block l c.args.user.now) e,
)
