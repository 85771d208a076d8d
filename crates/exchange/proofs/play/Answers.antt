-- `exchange::play` meets its contract.
use Rattle.ground.proofs.Told.{said}
use Rattle.turns.specs.Turns.{setting}
use Rattle.exchange.proofs.Handing.{plays_tag, plays_reader}
use Rattle.exchange.proofs.play.Goals as goal

pub returns-then-tag_next : goal.returns-then-tag_next
returns-then-tag_next c =
    plays_tag (setting c.args.plan c.args.words.now c.args.keys.now c.args.draws.now) c.args.standing c.args.tag
    c.args.identity.now
    c.args.user.now _ _ _ _ (said c.tag_next.ensures c.if-tag_next.true)
    c.tag_turn.ensures

pub returns : goal.returns
returns c =
    plays_reader (setting c.args.plan c.args.words.now c.args.keys.now c.args.draws.now) c.args.standing c.args.tag
    c.args.identity.now
    c.args.user.now _ _ _ _ (said c.tag_next.ensures c.if-tag_next.false)
    c.reader_turn.ensures
