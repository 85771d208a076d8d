use mathlib.Core.Path.{ap, ◌∙◌}
use mathlib.Core.List.{List}
use Prim.Native.Nat.{ℕ, ◌≤◌}
use native.Mathlib.Omega.{arith}
use lib.ListN.{length, take}
use lib.Seq.{length-take-le}
use Rattle.std.proofs.Common.{rules, tests}
use Rattle.field.proofs.Arrays.{array_length}
use Rattle.modes.specs.Room.{over}
use Rattle.modes.specs.Cmac.{cmac96}
use Rattle.modes.proofs.Rooms.{done, copied, room_for_mac}
use Rattle.modes.proofs.cmac_96.Goals as goal

pub returns : goal.returns
unfolding cmac96
returns c =
    let a = c.args in
    let mac = c.cmac-mac in
    let n = length a.input.now in
    let sixteen = array_length 16 mac.result _ mac.type_inv in
    let some : 1 ≤ n = search (rules, tests) in
    done _ (cmac96 a.key a.input.now) a.room.now _
    (room_for_mac n (length a.room.now) some c.if-input-ne0.false c.if-room-lt12.false)
    (copied (take 12 mac.result) a.room.now _ 12 (length-take-le 12 mac.result (omega (arith, sixteen)))
    c.copy_from_slice.ensures.after
    ∙ ap (λ (m : List ℕ). over (take 12 m) a.room.now) mac.ensures)
