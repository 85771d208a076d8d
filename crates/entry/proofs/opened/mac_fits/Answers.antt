-- `entry::opened::mac_fits` meets its contract.
use mathlib.Core.Path.{◌≡◌, ap, ap₂, ◌∙◌}
use mathlib.Core.Bool.{true}
use mathlib.Core.List.{List, ◌++◌}
use Prim.Native.Nat.{ℕ, ◌+◌, ◌-◌}
use lib.ListN.{length, take, drop}
use Rattle.frames.specs.Blocks.{blocks_length}
use Rattle.payload.specs.Protected.{mac_fits}
use Rattle.entry.specs.Opened.{sent_data, sent_block, sent_mac, sent_mac_fits}
use Rattle.entry.proofs.Sent.{rest_sent, covered}
use Rattle.entry.proofs.opened.mac_fits.Goals as goal

pub returns : goal.returns
unfolding sent_mac_fits
returns c = let b = c.blocks_length-end in
    let m = c.args.sent.now.m.now in
    let n = blocks_length c.args.sent.now.f.custom.blocksize true c.args.sent.now.f.custom.blockcount in
    let over : take (20 + b.result - 4) (drop 4 m) ≡ sent_block m ++ sent_data c.args.sent.now.f.custom m =
    ap (λ (k : ℕ). take (20 + k - 4) (drop 4 m)) b.ensures ∙ covered m n in
    let behind : take (length m - (20 + b.result)) (drop (20 + b.result) m) ≡ sent_mac c.args.sent.now.f.custom m =
    rest_sent m (20 + b.result) ∙ ap (λ (k : ℕ). drop (20 + k) m) b.ensures in
    c.mac_fits.ensures ∙ ap₂ (λ (x y : List ℕ). mac_fits c.args.key.mackey c.args.mode x y) over behind
