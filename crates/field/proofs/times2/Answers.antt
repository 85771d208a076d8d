use mathlib.Core.Path.{refl}
use Prim.Native.Nat.{◌*◌, ◌/◌, ◌%◌}
use lib.Bits.{bit_xor}
use Rattle.field.specs.Field.{times, remainder, polynomial_product}
use Rattle.field.proofs.Table.{same_at}
use borrow.Author.Rules.{rules}
use Rattle.field.proofs.times2.Goals as goal

pub returns : goal.returns
unfolding times remainder polynomial_product
returns c = same_at (λ b. bit_xor (b * 2 % 256) (b / 128 * 0x1B)) (times 2) 256 refl c.args.b (search rules)
