use Rattle.std.specs.Prelude.{Ok}
use mathlib.Core.Path.{refl, sym, ap, ◌∙◌}
use native.Mathlib.Omega.{arith}
use native.Mathlib.Nat.{le_of_lt}
use Rattle.sheet.specs.Limits.{key_limit}
use Rattle.sheet.proofs.Walks.{read_faulty, read_tail, read_whole, read_taken, read_cut}
use Rattle.sheet.proofs.Judgements.{judged_in}
use Rattle.sheet.proofs.Verdicts.{read_as}
use Rattle.sheet.proofs.places.read_from.Goals as goal

pub returns-then-s-from : goal.returns-then-s-from
returns-then-s-from c =
    read_as _ _ (sym (read_cut key_limit c.args.s.now c.args.from c.args.before c.if-s-from.true))

pub loop-at-init : goal.loop-at-init
loop-at-init c = refl

pub returns-in-Err : goal.returns-in-Err
returns-in-Err c = let l = c.loop-at in
    let t = le_of_lt c.loop-at-test.true in
    let j = judged_in key_limit c.args.s.now l.at l.gathered _ _ _ c.tail.ensures c.judge_in.ensures in
    let h = read_faulty key_limit c.args.s.now l.at l.gathered _ t j _ c.in-Err.is in
    read_as _ _ (sym h ∙ l.invariant)

pub returns-then-at-s : goal.returns-then-at-s
returns-then-at-s c = let l = c.loop-at in
    let t = le_of_lt c.loop-at-test.true in
    let j = judged_in key_limit c.args.s.now l.at l.gathered _ _ _ c.tail.ensures c.judge_in.ensures in
    let e = c.in-Ok-Ended.is ∙ ap Ok c.in-Ok-Ended.field-0-is in
    let h = read_tail key_limit c.args.s.now l.at l.gathered _ t j e c.if-at-s.true in
    read_as _ _ (sym h ∙ l.invariant)

pub returns-in-Ok-Ended : goal.returns-in-Ok-Ended
returns-in-Ok-Ended c = let l = c.loop-at in
    let t = le_of_lt c.loop-at-test.true in
    let j = judged_in key_limit c.args.s.now l.at l.gathered _ _ _ c.tail.ensures c.judge_in.ensures in
    let e = c.in-Ok-Ended.is ∙ ap Ok c.in-Ok-Ended.field-0-is in
    let h = read_whole key_limit c.args.s.now l.at l.gathered _ t j e c.if-at-s.false in
    read_as _ _ (sym h ∙ l.invariant)

pub overflow_add-at-in-Ok-Taken : goal.overflow_add-at-in-Ok-Taken
overflow_add-at-in-Ok-Taken c = let l = c.loop-at in
    let t = le_of_lt c.loop-at-test.true in
    let j = judged_in key_limit c.args.s.now l.at l.gathered _ _ _ c.tail.ensures c.judge_in.ensures in
    let e = c.in-Ok-Taken.is ∙ ap Ok c.in-Ok-Taken.field-0-is in
    let h = read_taken key_limit c.args.s.now l.at l.gathered _ t j _ e in
    omega arith

pub loop-at-smaller : goal.loop-at-smaller
loop-at-smaller c = let l = c.loop-at in
    let t = le_of_lt c.loop-at-test.true in
    let j = judged_in key_limit c.args.s.now l.at l.gathered _ _ _ c.tail.ensures c.judge_in.ensures in
    let e = c.in-Ok-Taken.is ∙ ap Ok c.in-Ok-Taken.field-0-is in
    let h = read_taken key_limit c.args.s.now l.at l.gathered _ t j _ e in
    omega arith

pub loop-at-preserved : goal.loop-at-preserved
loop-at-preserved c = let l = c.loop-at in
    let t = le_of_lt c.loop-at-test.true in
    let j = judged_in key_limit c.args.s.now l.at l.gathered _ _ _ c.tail.ensures c.judge_in.ensures in
    let e = c.in-Ok-Taken.is ∙ ap Ok c.in-Ok-Taken.field-0-is in
    let h = read_taken key_limit c.args.s.now l.at l.gathered _ t j _ e in
    sym h.2 ∙ l.invariant

pub returns : goal.returns
returns c =
    let l = c.loop-at in
    let h = read_cut key_limit c.args.s.now l.at l.gathered c.loop-at-test.false in
    read_as _ _ (sym h ∙ l.invariant)
