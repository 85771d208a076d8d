use mathlib.Core.Path.{◌∙◌}
use Rattle.field.proofs.Arrays.{array_bytes}
use Rattle.aes_inverse.specs.InvCipher.{inv_sub_bytes}
use Rattle.field.proofs.Block.{substituted_by}
use Rattle.aes_inverse.specs.InvSbox.{inv_sbox, inv_sbox_table}
use Rattle.aes_inverse.proofs.inv_sub_bytes.Goals as goal

pub returns : goal.returns
unfolding inv_sub_bytes inv_sbox_table
returns c = let a = c.args in
    c.substitute.ensures ∙ substituted_by inv_sbox _ a.s c.inverse_sbox_table.ensures
    (array_bytes 16 a.s _ c.well_formed.0)
