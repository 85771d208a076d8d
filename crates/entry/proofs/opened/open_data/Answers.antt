-- `entry::opened::open_data` meets its contract.
use Rattle.std.specs.Prelude.{Ok, Err, is_ok}
use mathlib.Core.Path.{◌≡◌, sym, ap, ap₂, ◌∙◌}
use mathlib.Core.List.{List}
use Prim.Native.Nat.{ℕ, ◌+◌, ◌-◌}
use native.Mathlib.Omega.{arith}
use lib.ListN.{length, take, drop}
use Rattle.ground.specs.Choice.{pick}
use Rattle.modes.specs.declared.ChainingFault.TheVariants.{BlocksOrRoom}
use Rattle.modes.specs.Cbc.{cbc_dec_aes}
use Rattle.modes.specs.Room.{over}
use Rattle.modes.proofs.Rooms.{enough, copied}
use mathlib.Core.Bool.{Bool, true}
use Rattle.frames.specs.Blocks.{blocks_length}
use Rattle.payload.proofs.Lengths.{blocks_whole}
use Rattle.payload.proofs.Macs.{into_taken}
use Rattle.entry.specs.Opened.{sent_data, sent_block, opened_in}
use Rattle.entry.proofs.Sent.{first_sent, data_sent_lem, data_long, opened_chained, opened_plain}
use Rattle.entry.proofs.opened.open_data.Goals as goal

pub unwrap-requires : goal.unwrap-requires
unwrap-requires c =
    let m = c.args.sent.now.m.now in
    let n = blocks_length c.args.sent.now.f.custom.blocksize true c.args.sent.now.f.custom.blockcount in
    let part = take (20 + c.blocks_length-end.result - 20) (drop 20 m) in
    let sent : part ≡ sent_data c.args.sent.now.f.custom m =
    data_sent_lem m c.blocks_length-end.result ∙ ap (λ (k : ℕ). take k (drop 20 m)) c.blocks_length-end.ensures in
    let long : length part ≡ n = ap length sent ∙ data_long c.args.sent.now.f.custom m c.args.sent.now.whole in
    let fits = enough (length part) (length c.args.out.now)
    (omega (arith, blocks_whole c.args.sent.now.f.custom.blocksize true c.args.sent.now.f.custom.blockcount))
    (omega arith) in
    ap is_ok c.cbc_dec_aes.ensures.says ∙ ap (λ (x : Bool). is_ok {T = Unit} (pick x (Ok tt) (Err BlocksOrRoom))) fits

pub returns-then-encrypts : goal.returns-then-encrypts
returns-then-encrypts c =
    let m = c.args.sent.now.m.now in
    let n = blocks_length c.args.sent.now.f.custom.blocksize true c.args.sent.now.f.custom.blockcount in
    let part = take (20 + c.blocks_length-end.result - 20) (drop 20 m) in
    let sent : part ≡ sent_data c.args.sent.now.f.custom m =
    data_sent_lem m c.blocks_length-end.result ∙ ap (λ (k : ℕ). take k (drop 20 m)) c.blocks_length-end.ensures in
    let long : length part ≡ n = ap length sent ∙ data_long c.args.sent.now.f.custom m c.args.sent.now.whole in
    let iv = c.first_block-iv in
    let from : iv.result ≡ sent_block m = iv.ensures ∙ first_sent m (omega arith) in
    let fits = enough (length part) (length c.args.out.now)
    (omega (arith, blocks_whole c.args.sent.now.f.custom.blocksize true c.args.sent.now.f.custom.blockcount))
    (omega arith) in
    let out : cbc_dec_aes iv.result c.args.key.enc part ≡ opened_in c.args.key c.args.mode c.args.sent.now.f m =
    ap₂ (λ (v d : List ℕ). cbc_dec_aes v c.args.key.enc d) from sent
    ∙ sym (opened_chained c.args.key c.args.mode c.args.sent.now.f m (sym c.encrypts.ensures ∙ c.if-encrypts.true)) in
    into_taken _ (cbc_dec_aes iv.result c.args.key.enc part) c.args.out.now _ _ c.cbc_dec_aes.ensures fits
    ∙ ap (λ (l : List ℕ). over l c.args.out.now) out

pub returns-else-encrypts : goal.returns-else-encrypts
returns-else-encrypts c =
    let m = c.args.sent.now.m.now in
    let n = blocks_length c.args.sent.now.f.custom.blocksize true c.args.sent.now.f.custom.blockcount in
    let part = take (20 + c.blocks_length-end.result - 20) (drop 20 m) in
    let sent : part ≡ sent_data c.args.sent.now.f.custom m =
    data_sent_lem m c.blocks_length-end.result ∙ ap (λ (k : ℕ). take k (drop 20 m)) c.blocks_length-end.ensures in
    let whole : length part ≡ n = ap length sent ∙ data_long c.args.sent.now.f.custom m c.args.sent.now.whole in
    let long : length part ≡ 20 + c.blocks_length-end.result - 20 = omega arith in
    let out : part ≡ opened_in c.args.key c.args.mode c.args.sent.now.f m =
    sent
    ∙ sym (opened_plain c.args.key c.args.mode c.args.sent.now.f m (sym c.encrypts.ensures ∙ c.if-encrypts.false)) in
    copied part c.args.out.now _ _ long c.copy_from_slice.ensures.after ∙ ap (λ (l : List ℕ). over l c.args.out.now) out
