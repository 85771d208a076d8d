use Rattle.octets.specs.Parts.{bytes_from}
use Rattle.field.specs.Block.{first_block}
use Rattle.field.proofs.first_block.Goals as goal

pub returns : goal.returns
unfolding first_block bytes_from
returns c = c.bytes_at.ensures
