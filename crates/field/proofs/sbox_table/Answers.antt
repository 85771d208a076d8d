-- `field::sbox_table` meets its contract: antt computes the affine map of each inverse.
use Rattle.field.specs.Sbox.{affine, affine_bit, from_bits}
use Rattle.field.proofs.Inverses.{inverses}
use Rattle.field.proofs.Inverse.{sbox_listed}
use Rattle.field.proofs.sbox_table.Goals as goal

pub returns : goal.returns
unfolding inverses affine affine_bit from_bits
returns c = sbox_listed
