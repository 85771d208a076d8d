-- `tag::turns::take` meets its contract.
use mathlib.Core.Path.{sym, ◌∙◌}
use Rattle.sheet.specs.Setups.{setup_of}
use Rattle.tag.specs.Answers.{tam1_answer, iam1_answer, mam1_answer}
use Rattle.tag.specs.Reactions.{lent}
use Rattle.tag.proofs.Sending.{nothing, reacts_sent}
use Rattle.tag.proofs.Turning.{some_taken, none_taken}
use Rattle.tag.proofs.Turning.{is_tam1, is_tam2, is_iam1, is_iam2, is_iam3, is_mam1, is_mam2, is_none}
use Rattle.tag.proofs.turns.take.Goals as goal

pub returns-in-Err : goal.returns-in-Err
returns-in-Err c =
    let call = lent c.args.m.now c.args.draws c.args.room.now c.args.identity.now c.args.user.now in
    let setup = setup_of c.args.terms c.args.keys.now in
    none_taken call setup c.args.held c.args.room.now _ c.args.m.now _ (sym c.kind_taken.ensures ∙ c.in-Err.is)
    c.refused.ensures

pub returns-in-Tam1 : goal.returns-in-Tam1
unfolding tam1_answer
returns-in-Tam1 c =
    let call = lent c.args.m.now c.args.draws c.args.room.now c.args.identity.now c.args.user.now in
    let setup = setup_of c.args.terms c.args.keys.now in
    some_taken call setup c.args.held c.args.room.now _ c.args.m.now _ _ _ _ (sym c.kind_taken.ensures ∙ c.in-Ok.is)
    (is_tam1 call setup c.args.held c.args.room.now _ _ _ c.in-Tam1.is
    (reacts_sent call c.args.room.now _ _ _ _ _ _ c.answered.ensures _ c.tam1.ensures (c.cleared.ensures ∙ nothing _)))

pub returns-in-Tam2 : goal.returns-in-Tam2
returns-in-Tam2 c =
    let call = lent c.args.m.now c.args.draws c.args.room.now c.args.identity.now c.args.user.now in
    let setup = setup_of c.args.terms c.args.keys.now in
    some_taken call setup c.args.held c.args.room.now _ c.args.m.now _ _ _ _ (sym c.kind_taken.ensures ∙ c.in-Ok.is)
    (is_tam2 call setup c.args.held c.args.room.now _ _ _ c.in-Tam2.is
    c.tam2.ensures)

pub returns-in-Iam1 : goal.returns-in-Iam1
unfolding iam1_answer
returns-in-Iam1 c =
    let call = lent c.args.m.now c.args.draws c.args.room.now c.args.identity.now c.args.user.now in
    let setup = setup_of c.args.terms c.args.keys.now in
    some_taken call setup c.args.held c.args.room.now _ c.args.m.now _ _ _ _ (sym c.kind_taken.ensures ∙ c.in-Ok.is)
    (is_iam1 call setup c.args.held c.args.room.now _ _ _ c.in-Iam1.is
    (reacts_sent call c.args.room.now _ _ _ _ _ _ c.answered-in-Iam1.ensures _ c.iam1-given.ensures.reply
    c.iam1-given.ensures.session))

pub returns-in-Iam2 : goal.returns-in-Iam2
returns-in-Iam2 c =
    let call = lent c.args.m.now c.args.draws c.args.room.now c.args.identity.now c.args.user.now in
    let setup = setup_of c.args.terms c.args.keys.now in
    some_taken call setup c.args.held c.args.room.now _ c.args.m.now _ _ _ _ (sym c.kind_taken.ensures ∙ c.in-Ok.is)
    (is_iam2 call setup c.args.held c.args.room.now _ _ c.args.room.now c.in-Iam2.is
    c.iam2.ensures)

pub returns-in-Iam3 : goal.returns-in-Iam3
returns-in-Iam3 c =
    let call = lent c.args.m.now c.args.draws c.args.room.now c.args.identity.now c.args.user.now in
    let setup = setup_of c.args.terms c.args.keys.now in
    some_taken call setup c.args.held c.args.room.now _ c.args.m.now _ _ _ _ (sym c.kind_taken.ensures ∙ c.in-Ok.is)
    (is_iam3 call setup c.args.held c.args.room.now _ _ c.args.room.now _ _ c.in-Iam3.is
    c.iam3.ensures)

pub returns-in-Mam1 : goal.returns-in-Mam1
unfolding mam1_answer
returns-in-Mam1 c =
    let call = lent c.args.m.now c.args.draws c.args.room.now c.args.identity.now c.args.user.now in
    let setup = setup_of c.args.terms c.args.keys.now in
    some_taken call setup c.args.held c.args.room.now _ c.args.m.now _ _ _ _ (sym c.kind_taken.ensures ∙ c.in-Ok.is)
    (is_mam1 call setup c.args.held c.args.room.now _ _ _ c.in-Mam1.is
    (reacts_sent call c.args.room.now _ _ _ _ _ _ c.answered-in-Mam1.ensures _ c.mam1-given.ensures.reply
    c.mam1-given.ensures.session))

pub returns-in-Mam2 : goal.returns-in-Mam2
returns-in-Mam2 c =
    let call = lent c.args.m.now c.args.draws c.args.room.now c.args.identity.now c.args.user.now in
    let setup = setup_of c.args.terms c.args.keys.now in
    some_taken call setup c.args.held c.args.room.now _ c.args.m.now _ _ _ _ (sym c.kind_taken.ensures ∙ c.in-Ok.is)
    (is_mam2 call setup c.args.held c.args.room.now _ _ c.args.room.now c.in-Mam2.is
    c.mam2.ensures)

pub returns-in-Unsupported : goal.returns-in-Unsupported
returns-in-Unsupported c =
    let call = lent c.args.m.now c.args.draws c.args.room.now c.args.identity.now c.args.user.now in
    let setup = setup_of c.args.terms c.args.keys.now in
    some_taken call setup c.args.held c.args.room.now _ c.args.m.now _ _ _ _ (sym c.kind_taken.ensures ∙ c.in-Ok.is)
    (is_none call setup c.args.held c.args.room.now _ _ c.in-Unsupported.is c.refused-in-Unsupported.ensures)
