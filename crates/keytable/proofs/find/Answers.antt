-- `keytable::find` meets its contract.
use mathlib.Core.Path.{sym, ◌∙◌}
use Rattle.keytable.proofs.Named.{not_named}
use Rattle.keytable.proofs.find.Goals as goal

pub returns : goal.returns
returns c =
    let b = c.in_ok-body.ensures in
    (sym b.1, c.key_of.ensures ∙ b.2)

pub returns-in_err-body : goal.returns-in_err-body
returns-in_err-body c =
    let none = c.in_err-body.ensures in
    rw c.from_residual.ensures (sym none, sym (not_named c.args.keyid _ none))
