-- `reader_judge::kinds::iam1` meets its contract.
use mathlib.Core.Path.{ap, ◌∙◌}
use mathlib.Core.List.{List}
use Prim.Native.Nat.{ℕ}
use borrow.Author.Tests.{eq-eqb}
use Rattle.ground.proofs.Checked.{passes, ends}
use Rattle.octets.proofs.Parts.{whole}
use Rattle.reader_judge.proofs.Judging.{told}
use Rattle.reader_judge.specs.Findings.{said_of, issues}
use Rattle.reader_judge.specs.Judged.{iam1_finding}
use Rattle.reader_judge.proofs.kinds.iam1.Goals as goal

pub returns : goal.returns
unfolding iam1_finding
returns c = told (passes _ _ _ _ (eq-eqb _ _ c.if-reply-ne10.false) (ends _ _))
    (c.issues.ensures ∙ ap (λ (l : List ℕ). said_of (issues l))
    (c.bytes_at.ensures ∙ whole c.args.reply.now 10 c.if-reply-ne10.false))
