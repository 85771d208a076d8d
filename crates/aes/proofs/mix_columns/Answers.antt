use Rattle.aes.specs.Cipher.{mix_columns, mixed_byte}
use Rattle.aes.proofs.mix_columns.Goals as goal

pub returns : goal.returns
unfolding mix_columns mixed_byte
returns c = rw (c.mix_column.ensures, c.mix_column-2.ensures, c.mix_column-3.ensures, c.mix_column-4.ensures)
