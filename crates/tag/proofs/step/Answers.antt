-- `tag::step` meets its contract.
use mathlib.Core.Path.{sym, ◌∙◌}
use Rattle.octets.proofs.Parts.{whole}
use Rattle.offer.proofs.Passed.{lending_draws, lending_room}
use Rattle.tag.proofs.Turning.{bench_wrong, bench_fine}
use Rattle.tag.proofs.step.Goals as goal

pub returns-in-Err : goal.returns-in-Err
returns-in-Err c =
    bench_wrong c.args.tag c.args.keys.now c.args.message.now c.args.draws.now c.args.room.now c.args.identity.now
    c.args.user.now _
    c.lending-verdict.ensures _ c.in-Err.is

pub take-reacted-requires : goal.take-reacted-requires
take-reacted-requires c =
    lending_room c.args.tag.terms.sizes _ _ _ _ (sym c.lending-verdict.ensures ∙ c.in_default.is)

pub returns : goal.returns
returns c =
    let draws = lending_draws c.args.tag.terms.sizes _ _ _ _ (sym c.lending-verdict.ensures ∙ c.in_default.is) in
    bench_fine c.args.tag c.args.keys.now c.args.message.now c.args.draws.now c.args.room.now c.args.identity.now
    c.args.user.now _
    c.lending-verdict.ensures _ _ _ _ _ c.in_default.is (c.bytes_at-drawn.ensures ∙ whole c.args.draws.now 10 draws)
    c.take-reacted.ensures
