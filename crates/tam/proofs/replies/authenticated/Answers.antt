-- `tam::replies::authenticated` meets its contract.
use Rattle.field.proofs.Arrays.{array_length}
use native.Mathlib.Omega.{arith}
use Rattle.payload.proofs.Overs.{next_back}
use Rattle.payload.proofs.Rooms.{put_over}
use Rattle.tam.proofs.replies.authenticated.Goals as goal

pub returns : goal.returns
returns c = let k = array_length 16 c.args.a _ c.well_formed.1.1.0 in
    let p = c.put in
    next_back c.args.a _ c.args.room.now p.new.room c.body.new.room 16 k
    (put_over 0 c.args.a c.args.room.now (omega arith) _ _ p.ensures) c.body.ensures
