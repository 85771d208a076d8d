-- `tam::replies::tam2_reply` meets its contract.
use mathlib.Core.Path.{sym, ap, ◌∙◌}
use mathlib.Core.List.{List}
use Prim.Native.Nat.{ℕ}
use lib.ListN.{length}
use Rattle.modes.specs.Room.{over}
use Rattle.tam.proofs.ReplyLengths.{tam2_named, tam2_nothing}
use Rattle.tam.proofs.replies.tam2_reply.Goals as goal

pub returns-in-Some : goal.returns-in-Some
returns-in-Some c =
    let same = sym (tam2_named c.args.key c.args.m c.args.words.now c.args.draws _
    (sym c.prot_mode.ensures ∙ c.in-Some.is)) in (
      c.tam2_in_mode.ensures.0 ∙ ap length same,
      c.tam2_in_mode.ensures.1
          ∙ ap (λ (l : List ℕ). over l c.args.room.now) same,
    )

pub returns-in-None : goal.returns-in-None
returns-in-None c =
    let none = sym (tam2_nothing c.args.key c.args.m c.args.words.now c.args.draws
    (sym c.prot_mode.ensures ∙ c.in-None.is)) in
    (ap length none, ap (λ (l : List ℕ). over l c.args.room.now) none)
