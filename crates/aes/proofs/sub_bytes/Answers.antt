use mathlib.Core.Path.{◌∙◌}
use Rattle.field.proofs.Block.{substituted_by}
use Rattle.field.proofs.Arrays.{array_bytes}
use Rattle.field.specs.Sbox.{sbox, sbox_table}
use Rattle.aes.specs.Cipher.{sub_bytes}
use Rattle.aes.proofs.sub_bytes.Goals as goal

pub returns : goal.returns
unfolding sub_bytes sbox_table
returns c = let a = c.args in
    c.substitute.ensures ∙ substituted_by sbox _ a.s c.sbox_table.ensures
    (array_bytes 16 a.s _ c.well_formed.0)
