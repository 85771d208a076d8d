use mathlib.Core.Path.{◌≡◌}
use Rattle.modes.specs.Blocks.{whole_blocks}
use Rattle.modes.specs.Cmac.{mac_chain}
use Rattle.modes.proofs.mac_parts.Given as goal

abbrev pub invariant-loop-part : goal.invariant-loop-part
invariant-loop-part l = record {
  size : l.part-iterator.size ≡ 256;
  rest : mac_chain l.key l.chained (whole_blocks l.part-iterator.rest.now)
      ≡ mac_chain l.key l.initial.chained (whole_blocks l.fn.input);
}
