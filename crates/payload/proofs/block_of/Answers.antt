-- `payload::block_of` meets its contract.
use native.Mathlib.Omega.{arith}
use lib.ListN.{replicate}
use Rattle.field.proofs.Arrays.{array_length}
use Rattle.payload.proofs.Overs.{put_three}
use Rattle.payload.proofs.Rooms.{put_over}
use Rattle.payload.proofs.block_of.Goals as goal

pub returns : goal.returns
returns c = let k = array_length 2 c.args.constant _ c.well_formed.0 in
    let l = array_length 4 c.args.middle _ c.well_formed.1.0 in
    let n = array_length 10 c.args.challenge _ c.well_formed.1.1.0 in
    let p = c.put in
    let q = c.put-2 in
    let r = c.put-3 in
    put_three c.args.constant c.args.middle c.args.challenge (replicate 16 0) p.new.room q.new.room r.new.room 2 6 k
    (omega arith) (omega arith)
    (put_over 0 c.args.constant (replicate 16 0) (omega arith) _ _ p.ensures)
    (put_over 2 c.args.middle p.new.room (omega arith) _ _ q.ensures)
    (put_over 6 c.args.challenge q.new.room (omega arith) _ _ r.ensures)
