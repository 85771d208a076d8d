-- `reader_judge::opened::opened_block` meets its contract.
use mathlib.Core.Path.{ap, ◌∙◌}
use Rattle.field.proofs.Block.{first_block_is}
use Rattle.aes_inverse.specs.AesDec.{aes_dec}
use Rattle.reader_judge.specs.Opened.{opened_block}
use Rattle.reader_judge.proofs.opened.opened_block.Goals as goal

pub returns : goal.returns
unfolding opened_block
returns c = c.decrypt.ensures ∙ ap (aes_dec c.args.keys.enc)
    (c.first_block.ensures ∙ first_block_is c.args.reply.now c.requires)
