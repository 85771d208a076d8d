-- `payload::carried_into` meets its contract.
use mathlib.Core.Path.{refl, sym, ap, ◌∙◌}
use Prim.Native.Nat.{ℕ}
use native.Mathlib.Omega.{arith}
use lib.ListN.{length, take, replicate}
use lib.Seq.{length-take-le}
use Rattle.frames.proofs.Joins.{refused}
use Rattle.payload.proofs.Data.{header_unfit, header_fit, header_taken, part_bound, other_length, not_fit, blocks_hold}
use Rattle.payload.proofs.Data.{carried_built}
use Rattle.payload.proofs.Rooms.{too_short}
use Rattle.payload.proofs.carried_into.Goals as goal

pub returns-in_err-header_into : goal.returns-in_err-header_into
returns-in_err-header_into c = let i = c.header_into in
    rw c.from_residual.ensures (refused _ _ _ c.args.room.now (not_fit c.args.custom _
    (header_unfit c.args.custom i.result (replicate 8 0) i.new.room refl i.ensures c.in_err-header_into.was)))

pub returns-then-words-data_length : goal.returns-then-words-data_length
returns-then-words-data_length c =
    refused _ _ _ c.args.room.now (other_length c.args.custom (length c.args.words.now)
    (λ e. c.if-words-data_length.true (e ∙ sym c.data_length.ensures)))

pub returns-then-room-n : goal.returns-then-room-n
returns-then-room-n c =
    too_short _ _ _ c.args.room.now (omega (arith, c.if-room-n.true, c.blocks_length-n.ensures))

pub slice_bounds-lay-end-2 : goal.slice_bounds-lay-end-2
slice_bounds-lay-end-2 c = sym (length-take-le c.blocks_length-n.result
    c.args.room.now
    (omega arith))

pub slice_bounds-header-end : goal.slice_bounds-header-end
slice_bounds-header-end c =
    omega (arith, part_bound _ _ _ c.header_part-header_end.ensures)

pub slice_bounds-lay-end-3 : goal.slice_bounds-lay-end-3
slice_bounds-lay-end-3 c =
    sym (length-take-le c.header_part-header_end.result
    c.header_into.new.room
    (omega (arith, part_bound _ _ _ c.header_part-header_end.ensures)))

pub lay-requires : goal.lay-requires
lay-requires c =
    let t = length-take-le c.header_part-header_end.result c.header_into.new.room
    (omega (arith, part_bound _ _ _ c.header_part-header_end.ensures)) in
    let u = length-take-le c.blocks_length-n.result c.args.room.now (omega arith) in
    omega (
      arith,
      t,
      u,
      blocks_hold c.args.rev c.args.custom,
      c.header_part-header_end.ensures,
      c.data_length.ensures,
      c.blocks_length-n.ensures,
    )

pub returns : goal.returns
returns c =
    let i = c.header_into in
    let h = c.header_part-header_end in
    let n = c.blocks_length-n in
    carried_built c.args.rev c.args.custom c.args.words.now
    (omega (
      arith,
      c.if-words-data_length.false,
      c.data_length.ensures,
    )) n.result
    (take h.result i.new.room) c.args.room.now c.lay.new.room
    (header_fit c.args.custom i.result (replicate 8 0) i.new.room refl i.ensures _ c.in_ok-header_into.was) n.ensures
    (omega (arith, c.if-room-n.false))
    (ap (λ (k : ℕ). take k i.new.room) h.ensures
    ∙ header_taken c.args.custom i.result (replicate 8 0) i.new.room refl i.ensures _ c.in_ok-header_into.was
    c.args.rev)
    c.lay.ensures
