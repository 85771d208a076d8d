-- `tam::replies::tam1_reply` meets its contract.
use mathlib.Core.Path.{ap, ◌∙◌}
use mathlib.Core.List.{List}
use Prim.Native.Nat.{ℕ}
use Rattle.tam.specs.Replies.{tam_block, tam1_reply}
use Rattle.tam.proofs.replies.tam1_reply.Goals as goal

pub returns : goal.returns
unfolding tam1_reply
returns c =
    c.tam_block.ensures ∙ ap (λ (k : List ℕ). tam_block c.args.key.enc k c.args.draws c.args.m.ichallenge)
    c.tam1_constant.ensures
