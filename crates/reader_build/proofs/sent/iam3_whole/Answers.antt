-- `reader_build::sent::iam3_whole` meets its contract.
use mathlib.Core.Path.{sym, ◌∙◌}
use Rattle.field.proofs.Arrays.{array_length}
use Rattle.reader_build.proofs.Sending.{whole_blocks_lem, whole_long, block_first, room_left, whole_laid}
use Rattle.reader_build.proofs.sent.iam3_whole.Goals as goal

pub iam3_response-requires : goal.iam3_response-requires
iam3_response-requires c = let n = array_length 16 c.args.a _ c.well_formed.1.1.1.1.0 in
    let b = c.iam3_into.ensures in (
      block_first c.args.keys c.args.custom c.args.protmode c.args.mode c.args.a c.args.p.now n
          c.requires.1
          c.args.room.now _ _ c.requires.0 c.requires.2 b,
      whole_blocks_lem c.args.keys c.args.custom c.args.protmode c.args.mode c.args.a c.args.p.now
          n c.requires.1,
      room_left c.args.keys c.args.custom c.args.protmode c.args.mode c.args.a c.args.p.now n
          c.requires.1
          c.args.room.now _ _ c.requires.0 c.requires.2 b,
    )

pub returns : goal.returns
returns c = let n = array_length 16 c.args.a _ c.well_formed.1.1.1.1.0 in (
  c.iam3_length.ensures ∙ sym (whole_long c.args.keys c.args.custom c.args.protmode c.args.mode
      c.args.a
      c.args.p.now n c.requires.1),
  whole_laid c.args.keys c.args.custom c.args.protmode c.args.mode c.args.a c.args.p.now n
      c.requires.1
      c.args.room.now _ _ c.requires.0 c.requires.2
      c.iam3_into.ensures _
      c.iam3_response.ensures,
)
