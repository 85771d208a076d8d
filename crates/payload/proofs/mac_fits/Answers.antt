-- `payload::mac_fits` meets its contract.
use mathlib.Core.Path.{refl, sym, ap, ◌∙◌}
use mathlib.Core.List.{List}
use Prim.Native.Nat.{ℕ}
use lib.ListN.{length, replicate}
use Rattle.octets.specs.Alike.{same}
use Rattle.payload.proofs.Macs.{into_refused, into_done, mac_made, none_judged, mac_unfit, mac_judged}
use Rattle.payload.proofs.mac_fits.Goals as goal

pub returns-then-not-has_mac : goal.returns-then-not-has_mac
returns-then-not-has_mac c =
    none_judged c.args.mackey c.args.mode c.args.covered.now c.args.mac.now
    (sym c.has_mac.ensures ∙ c.if-not-has_mac.true)

pub returns-then-is_err : goal.returns-then-is_err
returns-then-is_err c =
    mac_unfit c.args.mackey c.args.mode c.args.covered.now c.args.mac.now
    (sym c.has_mac.ensures
    ∙ c.if-not-has_mac.false)
    (into_refused _ _ _ _ _ c.cmac_96.ensures
    (sym c.is_err.ensures.value ∙ c.if-is_err.true))

pub returns : goal.returns
returns c =
    let m = c.cmac_96 in
    let t = into_done _ _ _ _ _ m.ensures (sym c.is_err.ensures.value ∙ c.if-is_err.false) in
    c.same.ensures ∙ ap (λ (l : List ℕ). same l c.args.mac.now)
    (mac_made (length c.args.covered.now) c.args.mackey c.args.covered.now (replicate 12 0) m.new.room _ refl t
    m.ensures)
    ∙ mac_judged c.args.mackey c.args.mode c.args.covered.now c.args.mac.now
    (sym c.has_mac.ensures
    ∙ c.if-not-has_mac.false) t
