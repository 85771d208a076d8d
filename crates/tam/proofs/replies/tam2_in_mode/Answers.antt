-- `tam::replies::tam2_in_mode` meets its contract.
use mathlib.Core.Path.{◌≡◌, sym}
use native.Mathlib.Omega.{arith}
use lib.ListN.{length, take}
use lib.Seq.{length-take-le}
use Rattle.payload.proofs.Data.{blocks_fit}
use Rattle.payload.proofs.Lengths.{blocks_whole}
use Rattle.tam.proofs.Tam2Made.{tam2_made_lem}
use borrow.Author.Rules.{rules}
use Rattle.tam.proofs.replies.tam2_in_mode.Goals as goal

pub slice_bounds-p-end : goal.slice_bounds-p-end
slice_bounds-p-end c = let n = c.blocks_length-n in
    omega (arith, blocks_fit c.args.m.rev c.args.m.custom c.requires.0, n.ensures)

pub slice_bounds-authenticated-end : goal.slice_bounds-authenticated-end
slice_bounds-authenticated-end c = let n = c.blocks_length-n in
    let p = c.carried-p in
    sym (length-take-le n.result p.result
    (omega (arith, blocks_fit c.args.m.rev c.args.m.custom c.requires.0, n.ensures)))

pub authenticated-requires : goal.authenticated-requires
authenticated-requires c = let n = c.blocks_length-n in
    let p = c.carried-p in
    let most = blocks_fit c.args.m.rev c.args.m.custom c.requires.0 in
    let whole = blocks_whole c.args.m.custom.blocksize c.args.m.rev c.args.m.custom.blockcount in
    let l : length (take n.result p.result) ≡ n.result =
    length-take-le n.result p.result (omega (arith, n.ensures, most)) in
    (omega (arith, n.ensures, whole, l), omega (arith, n.ensures, most, l))

pub overflow_add-n : goal.overflow_add-n
overflow_add-n c =
    record { fits = omega (arith, blocks_fit c.args.m.rev c.args.m.custom c.requires.0, c.blocks_length-n.ensures) }

pub returns : goal.returns
returns c =
    let a = c.args in
    let n = c.blocks_length-n in
    let p = c.carried-p in
    let k = c.tam2_constant-constant in
    let b = c.tam_block-a in
    let r = c.authenticated in
    let z = c.mac_behind in
    tam2_made_lem a.key a.m a.words.now a.draws a.mode c.requires.0 c.requires.1
    n.result c.tam2_reply_length.result z.result p.result k.result b.result a.room.now r.new.room z.new.room
    n.ensures p.ensures k.ensures b.ensures r.ensures (search rules) (omega arith) z.ensures
    c.tam2_reply_length.ensures
