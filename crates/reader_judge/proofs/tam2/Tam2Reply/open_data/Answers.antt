-- `reader_judge::tam2::Tam2Reply::open_data` meets its contract.
use mathlib.Core.Path.{◌≡◌, sym, ap, ◌∙◌}
use mathlib.Core.List.{◌++◌}
use Prim.Native.Nat.{ℕ, ◌+◌, ◌-◌}
use native.Mathlib.Omega.{arith}
use lib.ListN.{drop, replicate}
use Rattle.payload.proofs.Data.{blocks_fit}
use Rattle.reader_judge.proofs.Clear.{blocks_there, opened_chained, opened_taken, opened_plain}
use Rattle.reader_judge.proofs.tam2.Tam2Reply.open_data.Goals as goal

pub unwrap-requires : goal.unwrap-requires
unwrap-requires c = let s = c.args.self.now in
    opened_taken s.keys s.mode s.f s.reply.now (blocks_there s) c.blocks-n.result (replicate 144 0)
    c.blocks-n.ensures.0 (blocks_fit s.f.rev s.f.custom s.fits) _ _ _ c.cbc_dec_aes_inv.ensures

pub returns-then-encrypts : goal.returns-then-encrypts
returns-then-encrypts c = let s = c.args.self.now in
    opened_chained s.keys s.mode s.f s.reply.now (blocks_there s) c.blocks-n.result (replicate 144 0)
    c.blocks-n.ensures.0 (blocks_fit s.f.rev s.f.custom s.fits) _ _ _
    (sym c.encrypts.ensures ∙ c.if-encrypts.true) c.first_block-iv.ensures c.cbc_dec_aes_inv.ensures

pub returns-else-encrypts : goal.returns-else-encrypts
returns-else-encrypts c = let s = c.args.self.now in
    let n = c.blocks-n.result in
    let k : n ≡ 16 + n - 16 = omega arith in
    ap (λ (i : ℕ). c.copy_from_slice.new.self ++ drop i (replicate 144 0)) k
    ∙ opened_plain s.keys s.mode s.f s.reply.now (blocks_there s) n (replicate 144 0) c.blocks-n.ensures.0
    (blocks_fit s.f.rev s.f.custom s.fits) _
    (sym c.encrypts.ensures ∙ c.if-encrypts.false) c.copy_from_slice.ensures.after
