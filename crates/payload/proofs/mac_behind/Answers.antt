-- `payload::mac_behind` meets its contract.
use mathlib.Core.Path.{refl, sym, ap, ◌∙◌}
use Prim.Native.Nat.{ℕ}
use native.Mathlib.Omega.{arith}
use lib.ListN.{length, take, replicate}
use lib.Seq.{length-take-le}
use Rattle.modes.specs.Room.{macs}
use Rattle.payload.proofs.Macs.{into_refused, into_done, mac_made, mac_none, mac_refused, mac_put}
use Rattle.payload.proofs.Rooms.{too_short}
use Rattle.payload.proofs.mac_behind.Goals as goal

pub returns-then-room-n : goal.returns-then-room-n
returns-then-room-n c = too_short _ _ _ c.args.room.now (omega (arith, c.if-room-n.true))

pub returns-then-not-has_mac : goal.returns-then-not-has_mac
returns-then-not-has_mac c =
    mac_none c.args.mode c.args.n c.args.mackey c.args.room.now
    (sym c.has_mac.ensures ∙ c.if-not-has_mac.true) (omega (arith, c.if-room-n.false))

pub slice_bounds-cmac_96-end-2 : goal.slice_bounds-cmac_96-end-2
slice_bounds-cmac_96-end-2 c =
    sym (length-take-le c.args.n c.args.room.now (omega arith))

pub returns-then-is_err : goal.returns-then-is_err
returns-then-is_err c =
    let e = length-take-le c.args.n c.args.room.now (omega
    (arith, c.if-room-n.false)) in
    mac_refused c.args.mode c.args.n c.args.mackey c.args.room.now
    (sym c.has_mac.ensures
    ∙ c.if-not-has_mac.false)
    (ap (λ (k : ℕ). macs k 12) (sym e) ∙ into_refused _ _ _ _ _ c.cmac_96.ensures
    (sym c.is_err.ensures.value ∙ c.if-is_err.true))

pub returns : goal.returns
returns c =
    let s = take c.args.n c.args.room.now in
    let m = c.cmac_96 in
    let e = length-take-le c.args.n c.args.room.now (omega (
      arith,
      c.if-room-n.false,
    )) in
    let t = into_done _ _ _ _ _ m.ensures (sym c.is_err.ensures.value ∙ c.if-is_err.false) in
    mac_put c.args.mode c.args.n c.args.mackey c.args.room.now m.new.room c.put.new.room
    c.put.result (sym c.has_mac.ensures
    ∙ c.if-not-has_mac.false) (ap (λ (k : ℕ). macs k 12) (sym e) ∙ t)
    (mac_made (length s) c.args.mackey s (replicate 12 0) m.new.room _ refl t m.ensures)
    c.put.ensures
