use mathlib.Core.Path.{sym}
use lib.ListN.{length}
use Rattle.modes.proofs.Rooms.{done, has_room}
use Rattle.modes.proofs.chain_into.Goals as goal

pub in_parts-requires : goal.in_parts-requires
in_parts-requires g c = has_room (length c.args.input.now) (length c.args.room.now) (sym c.if-not-takes.ensures)

pub returns : goal.returns
returns g c = done _ _ c.args.room.now _ (sym c.if-not-takes.ensures) c.in_parts.ensures
