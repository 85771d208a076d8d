-- `tam::replies::carried` meets its contract.
use mathlib.Core.Path.{sym}
use Prim.Native.Nat.{ℕ}
use native.Mathlib.Omega.{arith}
use mathlib.Core.List.{◌++◌}
use lib.ListN.{length, drop, replicate, length-replicate}
use lib.Seq.{length-take-le}
use Rattle.tam.proofs.Tam2Made.{data_most, whole_long, carried_made}
use Rattle.tam.proofs.replies.carried.Goals as goal

pub slice_bounds-whole-end : goal.slice_bounds-whole-end
slice_bounds-whole-end c = omega (
  arith,
  c.requires.1,
  data_most c.args.rev c.args.custom c.args.words.now c.requires.0 c.requires.1,
)

pub copy_from_slice-requires : goal.copy_from_slice-requires
copy_from_slice-requires c = length-take-le (length c.args.words.now) (replicate {A = ℕ} 128 0) (omega (
  arith,
  length-replicate {A = ℕ} 128 0,
  c.requires.1,
  data_most c.args.rev c.args.custom c.args.words.now c.requires.0 c.requires.1,
))

pub slice_bounds-whole-end-2 : goal.slice_bounds-whole-end-2
slice_bounds-whole-end-2 c =
    let long = whole_long c.args.rev c.args.custom c.args.words.now c.requires.0 c.requires.1 _
    c.copy_from_slice.ensures.after in
    omega (
      arith,
      long,
      c.data_length-n.ensures,
      data_most c.args.rev c.args.custom c.args.words.now c.requires.0 c.requires.1,
    )

pub slice_bounds-copy_from_slice-end : goal.slice_bounds-copy_from_slice-end
slice_bounds-copy_from_slice-end c = sym (length-take-le (length c.args.words.now) (replicate {A = ℕ} 128 0) (omega (
  arith,
  length-replicate {A = ℕ} 128 0,
  c.requires.1,
  data_most c.args.rev c.args.custom c.args.words.now c.requires.0 c.requires.1,
)))

pub slice_bounds-carried_into-end : goal.slice_bounds-carried_into-end
slice_bounds-carried_into-end c =
    let long = whole_long c.args.rev c.args.custom c.args.words.now c.requires.0 c.requires.1 _
    c.copy_from_slice.ensures.after in
    sym (length-take-le c.data_length-n.result
    (c.copy_from_slice.new.self ++ drop (length c.args.words.now) (replicate {A = ℕ} 128 0)) (omega (
      arith,
      long,
      c.data_length-n.ensures,
      data_most c.args.rev c.args.custom c.args.words.now c.requires.0 c.requires.1,
    )))

pub returns : goal.returns
returns c = let n = c.data_length-n in
    let p = c.carried_into in
    carried_made c.args.rev c.args.custom c.args.words.now c.requires.0 c.requires.1 n.result p.result
    _ _ n.ensures c.copy_from_slice.ensures.after p.ensures
