-- `entry::opened::iam3_in_mode` meets its contract.
use Rattle.std.specs.Prelude.{Ok}
use Rattle.offer.specs.declared.Answer.TheVariants.{Entered}
use mathlib.Core.Path.{◌≡◌, sym, ap, ◌∙◌}
use mathlib.Core.Bool.{true, false}
use mathlib.Core.List.{List}
use Prim.Native.Nat.{ℕ}
use native.Mathlib.Omega.{arith}
use lib.ListN.{replicate}
use lib.Seq.{length-take-le}
use Rattle.memory.specs.declared.Area.{Area}
use Rattle.memory.specs.declared.Area.TheVariants.{Identity, User}
use Rattle.memory.specs.Areas.{stored_in}
use Rattle.entry.specs.Opened.{purpose_in, words_in, iam3_proof}
use Rattle.entry.proofs.Sent.{opened_front, opened_named, proof_named}
use Rattle.entry.proofs.opened.iam3_in_mode.Goals as goal

pub slice_bounds-proved-end : goal.slice_bounds-proved-end
slice_bounds-proved-end c =
    sym (length-take-le _ c.open_data.new.out (omega (arith, c.args.sent.now.in_room, c.blocks_length-n.ensures)))

pub proved-requires : goal.proved-requires
proved-requires c =
    let o = c.open_data in
    let b = c.blocks_length-n in (
      c.first_opened-b.ensures,
      opened_front c.args.key c.args.mode c.args.sent.now.f c.args.sent.now.m.now c.args.sent.now.whole
          (replicate 144 0) o.new.out
          b.result
          b.ensures
          o.ensures,
    )

pub returns-then-not-proved : goal.returns-then-not-proved
returns-then-not-proved c =
    let e : iam3_proof c.args.key c.args.held c.args.sent.now.f c.args.sent.now.m.now ≡ false =
    proof_named c.args.key c.args.held c.args.mode c.args.sent.now.f c.args.sent.now.m.now c.requires
    ∙ sym c.proved.ensures ∙ c.if-not-proved.true in
    record {
      outcome = rw e c.refused.ensures.0;
      session = rw e c.refused.ensures.1;
      in_identity = rw e;
      in_user = rw e;
    }

pub slice_bounds-write-end : goal.slice_bounds-write-end
slice_bounds-write-end c =
    sym (length-take-le _ c.open_data.new.out (omega (arith, c.args.sent.now.in_room, c.blocks_length-n.ensures)))

pub returns : goal.returns
returns c =
    let b = c.blocks_length-n in
    let o = c.open_data in
    let w = c.write.ensures in
    let e : iam3_proof c.args.key c.args.held c.args.sent.now.f c.args.sent.now.m.now ≡ true =
    proof_named c.args.key c.args.held c.args.mode c.args.sent.now.f c.args.sent.now.m.now c.requires
    ∙ sym c.proved.ensures ∙ c.if-not-proved.false in
    let p =
    opened_front c.args.key c.args.mode c.args.sent.now.f c.args.sent.now.m.now c.args.sent.now.whole
    (replicate 144 0) o.new.out b.result
    b.ensures o.ensures
    ∙ sym (opened_named c.args.key c.args.held c.args.mode c.args.sent.now.f c.args.sent.now.m.now c.requires) in
    let x = c.purpose.ensures ∙ ap purpose_in c.first_opened-b.ensures in
    let there : Area → List ℕ → List ℕ → List ℕ =
    λ area l z. stored_in area c.args.block (words_in c.args.sent.now.f.custom l) z in
    record {
      outcome = rw e (c.let_in.ensures.0 ∙ ap (λ n. Ok (Entered n)) x);
      session = rw e c.let_in.ensures.1;
      in_identity = rw e (w.0 ∙ ap (λ (l : List ℕ). there Identity l c.args.identity.now) p);
      in_user = rw e (w.1 ∙ ap (λ (l : List ℕ). there User l c.args.user.now) p);
    }
