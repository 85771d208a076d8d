use native.Mathlib.Omega.{arith}
use mathlib.Core.Path.{sym}
use Prim.Native.Nat.{◌≤◌}
use lib.ListN.{length}
use Rattle.field.proofs.Block.{first_block_is}
use Rattle.modes.proofs.Chains.{tail_part}
use Rattle.modes.proofs.Mac.{mac_none, mac_more}
use Rattle.modes.proofs.+mac_chain.Goals as goal

pub returns-then-input-lt16 : goal.returns-then-input-lt16
returns-then-input-lt16 t c = let a = c.args in
    sym (mac_none a.key a.c a.input.now c.if-input-lt16.true)

pub returns : goal.returns
returns t c =
    let a = c.args in
    let h : 16 ≤ length a.input.now = omega arith in
    cc (first_block_is a.input.now h, mac_more a.key a.c a.input.now h, tail_part 16 a.input.now)
