-- The reader's turn and the tag's turn, which call each other, meet their contracts.
use Rattle.ground.proofs.Told.{said}
use Rattle.turns.specs.Turns.{setting}
use Rattle.exchange.proofs.Handing.{reader_stops, reader_waits, reader_goes, tag_stops, tag_waits, tag_goes}
use Rattle.exchange.proofs.+reader_turn_tag_turn.Goals as goal
use Rattle.exchange.proofs.+reader_turn_tag_turn.Goals.{
  reader_turn-then-turns-eq0-via-then-turns-eq0,
  reader_turn-then-turns-eq0-via-else-turns-eq0+then-not-reader_next,
  tag_turn-then-turns-eq0-via-then-turns-eq0,
  tag_turn-then-turns-eq0-via-else-turns-eq0+then-not-tag_next,
}

pub reader_turn-returns-then-turns-eq0 : goal.reader_turn-returns-then-turns-eq0
reader_turn-returns-then-turns-eq0 t c =
    let a = c.args in
    let x = setting a.plan a.words.now a.keys.now a.draws.now in
    elim c.then-turns-eq0.branch [
      | reader_turn-then-turns-eq0-via-then-turns-eq0 w ↦
          reader_stops x a.standing a.tag a.identity.now a.user.now _ w.if-turns-eq0.true
      | reader_turn-then-turns-eq0-via-else-turns-eq0+then-not-reader_next w ↦
          reader_waits x a.standing a.tag a.identity.now a.user.now _
          (said w.reader_next.ensures w.if-not-reader_next.true)
    ]

pub reader_turn-returns : goal.reader_turn-returns
reader_turn-returns t c =
    let a = c.args in
    reader_goes (setting a.plan a.words.now a.keys.now a.draws.now) a.standing a.tag a.identity.now
    a.user.now _ _ _ _ _ c.if-turns-eq0.false (said c.reader_next.ensures c.if-not-reader_next.false)
    c.act-after.ensures c.tag_turn.ensures

pub tag_turn-returns-then-turns-eq0 : goal.tag_turn-returns-then-turns-eq0
tag_turn-returns-then-turns-eq0 t c =
    let a = c.args in
    let x = setting a.plan a.words.now a.keys.now a.draws.now in
    elim c.then-turns-eq0.branch [
      | tag_turn-then-turns-eq0-via-then-turns-eq0 w ↦
          tag_stops x a.standing a.tag a.identity.now a.user.now _ w.if-turns-eq0.true
      | tag_turn-then-turns-eq0-via-else-turns-eq0+then-not-tag_next w ↦
          tag_waits x a.standing a.tag a.identity.now a.user.now _ (said w.tag_next.ensures w.if-not-tag_next.true)
    ]

pub tag_turn-returns : goal.tag_turn-returns
tag_turn-returns t c =
    let a = c.args in
    tag_goes (setting a.plan a.words.now a.keys.now a.draws.now) a.standing a.tag a.identity.now
    a.user.now _ c.act-acted.result _ _ _ _ _ c.if-turns-eq0.false
    (said c.tag_next.ensures c.if-not-tag_next.false) c.act-acted.ensures c.reader_turn.ensures
