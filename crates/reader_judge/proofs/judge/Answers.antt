-- `reader_judge::judge` meets its contract.
use mathlib.Core.Path.{ap, sym, ◌∙◌}
use lib.ListN.{length}
use Rattle.std.specs.Option.{option_copied}
use Rattle.std.proofs.lemmas.Option.{MatchOption-at_some}
use Rattle.ground.proofs.Told.{said}
use Rattle.reader_judge.proofs.Judging.{refuses, judges_as, no_message, own_told, room_enough, widened}
use Rattle.reader_judge.proofs.Clear.{data_most}
use Rattle.reader_judge.proofs.judge.Goals as goal

pub returns-in_default : goal.returns-in_default
returns-in_default c = let a = c.args in
    judges_as (no_message a.keys a.message.now a.reply.now (length a.room.now)
    (sym c.first.ensures.value ∙ ap option_copied c.in_default.is)) (refuses _ _)

pub returns-then-not-own_fits : goal.returns-then-not-own_fits
returns-then-not-own_fits c = let a = c.args in
    judges_as
    (sym (own_told a.keys a.message.now a.reply.now (length a.room.now) _ c.kind_of-kind.result
    (sym c.first.ensures.value ∙ ap option_copied c.in-Some.is) c.kind_of-kind.ensures
    (said c.own_fits.ensures c.if-not-own_fits.true)))
    (refuses _ _)

pub unwrap-requires : goal.unwrap-requires
unwrap-requires c = let a = c.args in
    c.first_chunk_mut.ensures.variant.1 (room_enough a.keys c.kind_of-kind.result a.message.now (length a.room.now)
    (said c.own_fits.ensures c.if-not-own_fits.false))

pub returns : goal.returns
returns c = let a = c.args in
    let kind = c.kind_of-kind in
    let own = said c.own_fits.ensures c.if-not-own_fits.false in
    let enough = room_enough a.keys kind.result a.message.now (length a.room.now) own in
    let front = MatchOption-at_some _ _ _ c.unwrap.ensures c.first_chunk_mut.ensures.cases in
    judges_as
    (sym (own_told a.keys a.message.now a.reply.now (length a.room.now) _ kind.result
    (sym c.first.ensures.value ∙ ap option_copied c.in-Some.is) kind.ensures own))
    (widened enough front.same (data_most a.keys a.message.now a.reply.now kind.result
    (λ i. (c.type_inv.message i).fits)) c.by_kind.ensures)
