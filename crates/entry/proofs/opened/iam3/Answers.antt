-- `entry::opened::iam3` meets its contract.
use mathlib.Core.Path.{◌≡◌, sym, ◌∙◌}
use mathlib.Core.Bool.{false}
use Rattle.entry.specs.Opened.{iam3_proof}
use Rattle.entry.proofs.Sent.{nothing_proved}
use Rattle.entry.proofs.opened.iam3.Goals as goal

pub iam3_in_mode-requires : goal.iam3_in_mode-requires
iam3_in_mode-requires c = sym c.prot_mode.ensures ∙ c.in-Some.is

pub returns-in-None : goal.returns-in-None
returns-in-None c =
    let e : iam3_proof c.args.key c.args.held c.args.sent.now.f c.args.sent.now.m.now ≡ false =
    nothing_proved c.args.key c.args.held c.args.sent.now.f c.args.sent.now.m.now
    (sym c.prot_mode.ensures ∙ c.in-None.is)
    in
    record {
      outcome = rw e c.refused.ensures.0;
      session = rw e c.refused.ensures.1;
      in_identity = rw e;
      in_user = rw e;
    }
