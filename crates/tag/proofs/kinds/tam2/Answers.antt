-- `tag::kinds::tam2` meets its contract.
use mathlib.Core.Path.{refl, sym, ◌∙◌}
use Rattle.tag.specs.Answers.{tam2_answer}
use Rattle.tag.specs.Reactions.{lent}
use Rattle.tag.proofs.Sending.{in_room, in_none, nothing, reacts_sent}
use Rattle.tag.proofs.kinds.tam2.Goals as goal

pub returns-in-Ok : goal.returns-in-Ok
unfolding tam2_answer
returns-in-Ok c =
    let s = c.send.ensures in
    reacts_sent (lent c.args.m.now c.args.draws c.args.room.now c.args.identity.now c.args.user.now) c.args.room.now
    _ _ _ _ _ _ (record { outcome = s.0; session = s.1; sent = s.2 }) _
    (sym (in_room _ _ _ c.tam2.ensures _ c.in-Ok.is))
    (c.cleared.ensures ∙ nothing _)

pub returns-in-Err : goal.returns-in-Err
unfolding tam2_answer
returns-in-Err c =
    let s = c.refused.ensures in
    reacts_sent (lent c.args.m.now c.args.draws c.args.room.now c.args.identity.now c.args.user.now) c.args.room.now
    _ _ _ _ _ _ (record { outcome = s.0; session = s.1; sent = refl }) _
    (sym (in_none _ _ _ c.tam2.ensures _ c.in-Err.is))
    (nothing _)
