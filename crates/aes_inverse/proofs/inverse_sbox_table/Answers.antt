-- `aes_inverse::inverse_sbox_table` meets its contract: antt computes the inverse affine map, and the inverse's entry.
use Rattle.field.specs.Sbox.{from_bits}
use Rattle.field.proofs.Inverses.{inverses}
use Rattle.aes_inverse.specs.InvSbox.{inv_affine, inv_affine_bit}
use Rattle.aes_inverse.proofs.InverseSbox.{inverse_listed}
use Rattle.aes_inverse.proofs.inverse_sbox_table.Goals as goal

pub returns : goal.returns
unfolding inverses inv_affine inv_affine_bit from_bits
returns c = inverse_listed
