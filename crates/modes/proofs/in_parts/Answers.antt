use mathlib.Core.Path.{refl, ◌∙◌}
use Prim.Native.Nat.{◌+◌}
use native.Mathlib.Omega.{arith}
use borrow.Author.Rules.{rules}
use Rattle.modes.specs.Forms.{outputs}
use Rattle.modes.proofs.Chains.{rest_chained}
use Rattle.modes.proofs.Parts.{next_part}
use Rattle.modes.proofs.in_parts.Goals as goal

pub loop-at-init : goal.loop-at-init
loop-at-init g c = (omega arith, refl, refl)

pub loop-at-preserved : goal.loop-at-preserved
loop-at-preserved g c =
    let l = c.loop-at in
    let a = c.args in
    let r = c.chain-handed in
    let end = l.at + 256 in (
      omega arith,
      search rules,
      next_part (g.F.Form.out a.key.now) (g.F.Form.on a.key.now) (g.met.F.Form.sixteen a.key.now) a.input.now l.at end
          (omega arith) (omega arith) (omega arith) l.chained l.room r.new.room r.result
          (omega (arith, c.requires, l.invariant.1)) r.ensures.written r.ensures.handed
          ∙ l.invariant.2,
    )

pub returns : goal.returns
returns g c =
    let l = c.loop-at in
    let a = c.args in
    rest_chained (outputs (g.F.Form.out a.key.now) (g.F.Form.on a.key.now)) l.chained a.input.now l.room l.at
    c.chain.new.room c.chain.ensures.written ∙ l.invariant.2
