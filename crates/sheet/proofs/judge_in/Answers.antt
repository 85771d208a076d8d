use mathlib.Core.Path.{sym, ap, ◌∙◌}
use native.Mathlib.Omega.{arith}
use Rattle.std.specs.Option.{option_copied}
use Rattle.sheet.specs.Limits.{key_limit}
use Rattle.sheet.proofs.Judgements.{judged_none, judged_shut, judged_open, some_there, body_fits, body_few, body_long}
use Rattle.sheet.proofs.judge_in.Goals as goal

pub returns-in_default : goal.returns-in_default
returns-in_default c =
    let none = sym c.first.ensures.value ∙ ap option_copied c.in_default.is in
    judged_none key_limit c.args.rest.now c.args.gathered.now none

pub overflow_add-e : goal.overflow_add-e
overflow_add-e c =
    let some = sym c.first.ensures.value ∙ ap option_copied c.in-Some.is in
    let h = body_fits key_limit c.args.rest.now c.args.gathered.now _ _ _ _ some c.opening.ensures c.in-Ok.is
    c.body_length-e.ensures in
    omega arith

pub slice_bounds-judge_body-end : goal.slice_bounds-judge_body-end
slice_bounds-judge_body-end c =
    let some = sym c.first.ensures.value ∙ ap option_copied c.in-Some.is in
    let there = some_there c.args.rest.now _ some in
    let h = body_fits key_limit c.args.rest.now c.args.gathered.now _ _ _ _ some c.opening.ensures c.in-Ok.is
    c.body_length-e.ensures in
    omega arith

pub judge_body-requires : goal.judge_body-requires
judge_body-requires c =
    let some = sym c.first.ensures.value ∙ ap option_copied c.in-Some.is in
    let k = c.args.gathered.now in
    let long = c.body_length-e.ensures in (
      body_long key_limit c.args.rest.now k _ _ _ _ some c.opening.ensures c.in-Ok.is long,
      body_few key_limit c.args.rest.now k _ _ _ _ some c.opening.ensures c.in-Ok.is long,
    )

pub returns-in-Err : goal.returns-in-Err
returns-in-Err c =
    let some = sym c.first.ensures.value ∙ ap option_copied c.in-Some.is in
    judged_shut key_limit c.args.rest.now c.args.gathered.now _ _ _ some c.opening.ensures c.in-Err.is

pub returns-in-Ok : goal.returns-in-Ok
returns-in-Ok c =
    let some = sym c.first.ensures.value ∙ ap option_copied c.in-Some.is in
    judged_open key_limit c.args.rest.now c.args.gathered.now _ _ _ _ _ some c.opening.ensures c.in-Ok.is
    c.body_length-e.ensures c.judge_body.ensures
