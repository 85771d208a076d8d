use mathlib.Core.Path.{◌≡◌, refl, sym, ap, ◌∙◌}
use mathlib.Core.List.{List}
use Prim.Native.Nat.{ℕ, min}
use native.Mathlib.Omega.{arith}
use lib.ListN.{length}
use Rattle.modes.specs.Blocks.{whole_blocks}
use Rattle.modes.specs.Cmac.{mac_chain}
use Rattle.modes.proofs.Mac.{mac_first, mac_none}
use Rattle.modes.proofs.mac_parts.Goals as goal

pub loop-part-init : goal.loop-part-init
loop-part-init c =
    let h = c.chunks-part-items.ensures in
    let i = c.into_iter-part-iterator.ensures.into_iter_gives in
    record {
      size = cc (h.size);
      rest = ap (λ (s : List ℕ). mac_chain c.args.key c.args.c (whole_blocks s)) (cc (h.rest));
    }

pub loop-part-preserved : goal.loop-part-preserved
loop-part-preserved c =
    let l = c.loop-part in
    let h = c.in-Some.ensures.steps in
    let rest = l.part-iterator.rest.now in
    let long : length c.in-Some.part.now ≡ min 256 (length rest) =
    h.1.1 ∙ ap (λ (n : ℕ). min n (length rest)) l.invariant.size in
    record {
      size = h.0 ∙ l.invariant.size;
      rest =
          ap (λ (r : List ℕ). mac_chain c.args.key r (whole_blocks c.next.new.self.rest.now)) c.mac_chain-given.ensures
          ∙ mac_first c.args.key l.chained rest c.in-Some.part.now c.next.new.self.rest.now 256 refl h.1.0 long
          ∙ l.invariant.rest;
    }

pub returns : goal.returns
returns c =
    let l = c.loop-part in
    let none : length l.part-iterator.rest.now ≡ 0 = c.in-None.ensures.steps.1.0 in
    sym (mac_none c.args.key l.chained l.part-iterator.rest.now (omega arith)) ∙ l.invariant.rest
