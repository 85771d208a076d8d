-- `entry::replies::with_clear` meets its contract.
use mathlib.Core.Path.{sym}
use native.Mathlib.Omega.{arith}
use lib.ListN.{take, replicate}
use lib.Seq.{length-take-le}
use Rattle.field.proofs.Arrays.{array_length}
use Rattle.payload.proofs.Overs.{put_two}
use Rattle.payload.proofs.Rooms.{put_over}
use Rattle.entry.proofs.replies.with_clear.Goals as goal

pub slice_bounds-put-end-4 : goal.slice_bounds-put-end-4
slice_bounds-put-end-4 c =
    sym (length-take-le 6 c.args.draws (omega (arith, array_length 10 c.args.draws _ c.well_formed.1.0)))

pub put-requires-2 : goal.put-requires-2
put-requires-2 c = let n = array_length 10 c.args.draws _ c.well_formed.1.0 in
    omega (arith, length-take-le 6 c.args.draws (omega arith))

pub returns : goal.returns
returns c = let k = array_length 16 c.args.block _ c.well_formed.0 in
    let n = array_length 10 c.args.draws _ c.well_formed.1.0 in
    let l = length-take-le 6 c.args.draws (omega arith) in
    put_two c.args.block (take 6 c.args.draws) (replicate 22 0) c.put.new.room c.put-2.new.room 16 k
    (omega arith)
    (put_over 0 c.args.block (replicate 22 0) (omega arith) _ _ c.put.ensures)
    (put_over 16 (take 6 c.args.draws) c.put.new.room (omega arith) _ _ c.put-2.ensures)
