use mathlib.Core.Path.{refl}
use Prim.Native.Nat.{◌+◌}
use native.Mathlib.Omega.{arith}
use lib.ListN.{replicate}
use Rattle.field.proofs.Fill.{none_yet, one_more_lem}
use Rattle.field.proofs.Arrays.{array_length, array_bytes}
use Rattle.modes.proofs.Mac.{doubled_byte, doubled_inner, doubled_whole}
use borrow.Author.Rules.{rules}
use Rattle.modes.proofs.double.Goals as goal

pub loop-i-init : goal.loop-i-init
loop-i-init c = none_yet (doubled_byte c.args.l) 16 (replicate 16 0) refl

pub loop-i-preserved : goal.loop-i-preserved
loop-i-preserved c = let s = c.args.l in
    one_more_lem (doubled_byte s) 16 c.loop-i.r c.loop-i.i _ (omega arith)
    (doubled_inner s c.loop-i.i (search rules) (array_bytes 16 s _ c.well_formed.0 (c.loop-i.i + 1)))
    c.loop-i.invariant

pub overflow_mul-r : goal.overflow_mul-r
overflow_mul-r c = record { fits = omega (arith, array_bytes 16 c.args.l _ c.well_formed.0 0) }

pub returns : goal.returns
returns c = let l = c.args.l in
    doubled_whole l c.loop-i.r c.loop-i.i (array_length 16 l _ c.well_formed.0)
    (omega arith) c.loop-i.invariant
