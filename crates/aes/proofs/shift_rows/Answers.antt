use Prim.Native.Nat.{◌+◌, ◌/◌, ◌%◌}
use Rattle.std.proofs.Common.{rules, tests}
use Rattle.field.proofs.Made.{made}
use Rattle.aes.specs.Cipher.{at, shift_rows}
use Rattle.aes.proofs.shift_rows.Goals as goal

pub returns : goal.returns
unfolding shift_rows
returns c =
    made (λ i. at c.args.s (i % 4) ((i / 4 + i % 4) % 4)) 16 (λ i y q lt k. search (rules, tests))
    c.from_fn.ensures.items
