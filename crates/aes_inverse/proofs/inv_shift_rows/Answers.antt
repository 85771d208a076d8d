use Prim.Native.Nat.{◌+◌, ◌-◌, ◌/◌, ◌%◌}
use Rattle.std.proofs.Common.{rules, tests}
use Rattle.field.proofs.Made.{made}
use Rattle.aes.specs.Cipher.{at}
use Rattle.aes_inverse.specs.InvCipher.{inv_shift_rows}
use Rattle.aes_inverse.proofs.inv_shift_rows.Goals as goal

pub returns : goal.returns
unfolding inv_shift_rows
returns c =
    made (λ i. at c.args.s (i % 4) ((i / 4 + (4 - i % 4)) % 4)) 16 (λ i y q lt k. search (rules, tests))
    c.from_fn.ensures.items
