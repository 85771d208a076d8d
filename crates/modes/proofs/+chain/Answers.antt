use mathlib.Core.Path.{◌≡◌, ap, ◌∙◌}
use mathlib.Core.List.{List, ◌++◌}
use Prim.Native.Nat.{ℕ}
use lib.ListN.{length, take, drop}
use Rattle.field.proofs.Block.{first_block_is}
use Rattle.modes.specs.Blocks.{whole_blocks}
use Rattle.modes.specs.Forms.{outputs, handed}
use Rattle.modes.proofs.Chains.{chain_none, chain_more, tail_part}
use Rattle.modes.proofs.Forms.{output_step, handed_step, outputs_none, handed_none}
use Rattle.modes.proofs.+chain.Goals as goal

pub returns-then-input-lt16-clause-written : goal.returns-then-input-lt16-clause-written
returns-then-input-lt16-clause-written g t c =
    let a = c.args in
    let out = g.F.Form.out a.key.now in
    let on = g.F.Form.on a.key.now in
    chain_none (outputs out on) a.iv.now a.input.now a.room.now (outputs_none out on a.iv.now) c.if-input-lt16.true

pub returns-then-input-lt16-clause-handed : goal.returns-then-input-lt16-clause-handed
returns-then-input-lt16-clause-handed g t c =
    let a = c.args in
    handed_none (g.F.Form.on a.key.now) a.iv.now a.input.now c.if-input-lt16.true

pub returns-clause-written : goal.returns-clause-written
returns-clause-written g t c =
    let a = c.args in
    let s = a.input.now in
    let out = g.F.Form.out a.key.now in
    let on = g.F.Form.on a.key.now in
    let h = c.if-input-lt16.false in
    let b = c.first_block-block.result in
    let o = c.output-output in
    let i = c.first_block-block.ensures ∙ first_block_is s h in
    let e : o.result ≡ out a.iv.now (take 16 s) = o.ensures ∙ ap (out a.iv.now) i in
    let n : c.next.result.now ≡ on a.iv.now (take 16 s) = c.next.ensures a.key.now a.iv.now o.ensures
    ∙ ap (on a.iv.now) i in
    chain_more (outputs out on) a.iv.now s a.room.now c.next.result.now o.result _ c.chain.new.room h
    (ap (λ (l : List ℕ). length l) e ∙ g.met.F.Form.sixteen a.key.now a.iv.now (take 16 s))
    (output_step out on a.iv.now (take 16 s) o.result c.next.result.now e n)
    (ap (λ (l : List ℕ). l ++ drop 16 a.room.now) c.copy_from_slice.ensures.after) c.chain.ensures.written

pub returns-clause-handed : goal.returns-clause-handed
returns-clause-handed g t c =
    let a = c.args in
    let s = a.input.now in
    let out = g.F.Form.out a.key.now in
    let on = g.F.Form.on a.key.now in
    let h = c.if-input-lt16.false in
    let o = c.output-output in
    let i = c.first_block-block.ensures ∙ first_block_is s h in
    c.chain.ensures.handed
    ∙ ap (λ (l : List ℕ). handed on c.next.result.now (whole_blocks l)) (tail_part 16 s)
    ∙ handed_step out on a.iv.now c.first_block-block.result o.result c.next.result.now o.ensures
    (c.next.ensures a.key.now a.iv.now o.ensures) s h i
