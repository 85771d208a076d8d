-- `reader_judge::tam2::tam2` meets its contract.
use mathlib.Core.Path.{ap, sym, ◌∙◌}
use borrow.Author.Tests.{ne_eqb}
use Rattle.frames.specs.declared.Tam2.{Tam2}
use Rattle.frames.specs.Fields.{custom_fits}
use Rattle.ground.proofs.Checked.{fails}
use Rattle.reader_judge.specs.Judged.{tam2_in_mode, tam2_finding}
use Rattle.reader_judge.proofs.Clear.{tam2_named, tam2_unnamed, tam2_in_range}
use Rattle.reader_judge.proofs.Judging.{refuses, judges_as}
use Rattle.reader_judge.proofs.tam2.tam2.Goals as goal

pub returns-in_default : goal.returns-in_default
returns-in_default c = let a = c.args in
    let f = c.tam2_of-f in
    judges_as (sym (tam2_unnamed a.keys f.result a.reply.now (sym c.prot_mode.ensures ∙ c.in_default.is))
    ∙ ap (λ (g : Tam2). tam2_finding a.keys g a.reply.now) f.ensures)
    (refuses _ _)

pub returns-then-reply-tam2_reply_length : goal.returns-then-reply-tam2_reply_length
unfolding tam2_in_mode
returns-then-reply-tam2_reply_length c = let a = c.args in
    let f = c.tam2_of-f in
    judges_as (fails _ _ _ _ (ne_eqb _ _ (λ e. c.if-reply-tam2_reply_length.true (e ∙ sym c.tam2_reply_length.ensures)))
    ∙ sym (tam2_named a.keys f.result a.reply.now _ (sym c.prot_mode.ensures ∙ c.in-Some.is))
    ∙ ap (λ (g : Tam2). tam2_finding a.keys g a.reply.now) f.ensures)
    (refuses _ _)

pub invariant_of-judge : goal.invariant_of-judge
invariant_of-judge c = record {
  fits = ap (λ (f : Tam2). custom_fits f.custom) c.tam2_of-f.ensures
      ∙ tam2_in_range c.args.message.now (λ i. (c.type_inv.message i).fits);
  whole = c.if-reply-tam2_reply_length.false ∙ c.tam2_reply_length.ensures;
}

pub returns : goal.returns
returns c = let a = c.args in
    let f = c.tam2_of-f in
    judges_as (sym (tam2_named a.keys f.result a.reply.now _ (sym c.prot_mode.ensures ∙ c.in-Some.is))
    ∙ ap (λ (g : Tam2). tam2_finding a.keys g a.reply.now) f.ensures)
    c.judge.ensures
