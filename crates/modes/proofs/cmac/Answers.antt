use native.Mathlib.Omega.{arith}
use mathlib.Core.Path.{◌≡◌, sym, ap, ◌∙◌}
use Prim.Native.Nat.{◌-◌}
use lib.ListN.{length, drop, length-drop}
use lib.Seq.{length-take-le, take_all}
use Rattle.field.specs.Block.{first_block}
use Rattle.field.proofs.Block.{first_block_is}
use Rattle.modes.specs.Cmac.{last_byte, subkey1, cmac}
use Rattle.modes.proofs.Chains.{tail_part}
use Rattle.modes.proofs.Mac.{mac_last}
use Rattle.modes.proofs.cmac.Goals as goal

pub slice_bounds-mac_parts-end : goal.slice_bounds-mac_parts-end
slice_bounds-mac_parts-end c = sym (length-take-le _ c.args.input.now (omega arith))

pub returns : goal.returns
unfolding cmac
returns c = let s = c.args.input.now in
    let n = length s - 16 in
    let f = c.first_block-last in
    let one : length (drop n s) ≡ 16 = length-drop n s ∙ omega arith in
    let last : f.result ≡ drop n s = f.ensures ∙ ap first_block (tail_part n s)
    ∙ first_block_is (drop n s) (omega arith) ∙ take_all 16 (drop n s) (omega arith) in
    cc (last, mac_last c.args.key (subkey1 c.args.key) (last_byte 0) s n (omega (arith, c.requires)) (omega arith))
