-- The MAC behind the bytes that it covers, made and judged.
use Rattle.std.specs.Prelude.{Option, Some, None, Result, Ok, Err, is_err}
use Rattle.modes.specs.declared.ChainingFault.{ChainingFault}
use Rattle.modes.specs.declared.ChainingFault.TheVariants.{BlocksOrRoom}
use mathlib.Core.Path.{◌≡◌, refl, sym, ap, ap₂, ◌∙◌}
use mathlib.Core.Bool.{Bool, true, false}
use mathlib.Core.List.{List, [], ◌++◌, append-nil}
use Prim.Native.Nat.{ℕ, ◌+◌, ◌%◌, ◌≤◌}
use native.Mathlib.Omega.{arith}
use lib.ListN.{length, take, length-append}
use lib.Seq.{length-take-le}
use Rattle.ground.specs.Choice.{pick, both, implies}
use Rattle.modes.specs.Cmac.{cmac96}
use Rattle.modes.specs.Room.{Into, macs, over}
use Rattle.modes.proofs.Rooms.{room_for_mac}
use Rattle.frames.specs.Built.{Built}
use Rattle.frames.specs.Modes.{has_mac}
use Rattle.frames.specs.declared.ProtMode.{ProtMode}
use Rattle.frames.specs.Lengths.{mac_length}
use Rattle.frames.proofs.Joins.{built, refused}
use Rattle.octets.specs.Alike.{same}
use Rattle.payload.specs.Protected.{mac_takes, with_mac, mac_fits}
use Rattle.payload.proofs.Lengths.{mac_twelve, mac_long}
use Rattle.payload.proofs.Overs.{over_all, over_none}
use Rattle.payload.proofs.Rooms.{over_built}

-- ---- what a call of the cipher answers

-- a call that is refused or taken, and what it leaves in its room
module _ (b : Bool) (out room after : List ℕ) (answer : Result Unit ChainingFault)
    (i : Into b out room answer after) where
  pub into_refused : is_err answer ≡ true → b ≡ false
  into_refused e = none b (sym (ap is_err i.says) ∙ e)
    where
      none : (x : Bool) → is_err (pick {A = Result Unit ChainingFault} x (Ok tt) (Err BlocksOrRoom)) ≡ true → x ≡ false
      none true f = sym f
      none false f = refl

  pub into_done : is_err answer ≡ false → b ≡ true
  into_done e = all b (sym (ap is_err i.says) ∙ e)
    where
      all : (x : Bool) → is_err (pick {A = Result Unit ChainingFault} x (Ok tt) (Err BlocksOrRoom)) ≡ false → x ≡ true
      all true f = refl
      all false f = sym f

  pub into_taken : b ≡ true → after ≡ over out room
  into_taken e = i.leaves ∙ ap (λ (x : Bool). pick x (over out room) room) e

-- the MAC, in a room of twelve
pub mac_made : (k : ℕ) (key s fresh mac : List ℕ) (answer : Result Unit ChainingFault) → length fresh ≡ 12
    → macs k 12 ≡ true → Into (macs k 12) (cmac96 key s) fresh answer mac → mac ≡ cmac96 key s
mac_made k key s fresh mac answer l t i = into_taken (macs k 12) (cmac96 key s) fresh mac answer i t
    ∙ over_all (cmac96 key s) fresh (mac_twelve key s ∙ sym l)

-- ---- the MAC put behind

-- whole blocks, at least one, go out under every ProtMode
pub whole_taken : (mode : ProtMode) (n : ℕ) → 1 ≤ n → n % 16 ≡ 0 → mac_takes mode n ≡ true
unfolding mac_takes
whole_taken mode n h e = ap (implies (has_mac mode)) (room_for_mac n 12 h e (omega arith))
    ∙ all (has_mac mode)
  where
    all : (x : Bool) → implies x true ≡ true
    all true = refl
    all false = refl

pub mac_most : (mode : ProtMode) → mac_length mode ≤ 12
unfolding mac_length
mac_most mode = most (has_mac mode)
  where
    most : (x : Bool) → pick {A = ℕ} x 12 0 ≤ 12
    most true = omega arith
    most false = omega arith

module _ (mode : ProtMode) (n : ℕ) (mackey room : List ℕ) where
  -- without a MAC all stays
  pub mac_none : has_mac mode ≡ false → n ≤ length room
      → Built (mac_takes mode n) (n + mac_length mode) (with_mac mackey mode (take n room)) room (Some n) room
  unfolding mac_takes mac_length with_mac
  mac_none e h =
      let s = take n room in
      over_built (implies (has_mac mode) (macs n 12)) (n + pick (has_mac mode) 12 0)
      (s ++ pick (has_mac mode) (cmac96 mackey s) []) room
      (ap (λ (x : Bool). implies x (macs n 12)) e) (rw e (omega arith))
      (rw e (ap length (append-nil s) ∙ length-take-le n room h ∙ (let z : n ≡ n + 0 = omega arith in z))) room
      n (rw e (omega arith))
      (over_none n room h ∙ ap (λ (x : Bool). over (s ++ pick x (cmac96 mackey s) []) room) (sym e))

  pub mac_refused : has_mac mode ≡ true → macs n 12 ≡ false
      → Built (mac_takes mode n) (n + mac_length mode) (with_mac mackey mode (take n room)) room None room
  unfolding mac_takes
  mac_refused e f = refused (implies (has_mac mode) (macs n 12)) (n + mac_length mode)
      (with_mac mackey mode (take n room)) room (ap₂ implies e f)

  pub mac_put : (mac after : List ℕ) (answer : Option ℕ) → has_mac mode ≡ true → macs n 12 ≡ true
      → mac ≡ cmac96 mackey (take n room)
      → Built true (n + length mac) (take n room ++ mac) room answer after
      → Built (mac_takes mode n) (n + mac_length mode) (with_mac mackey mode (take n room)) room answer after
  unfolding mac_takes mac_length with_mac
  mac_put mac after answer e t m b =
      let s = take n room in
      built (implies (has_mac mode) (macs n 12)) (n + pick (has_mac mode) 12 0) (n + length mac)
      (s ++ pick (has_mac mode) (cmac96 mackey s) []) (s ++ mac) room after answer
      (ap₂ implies e t) (ap (λ (k : ℕ). n + k) (ap length m ∙ mac_twelve mackey s)
      ∙ ap (λ (x : Bool). n + pick x 12 0) (sym e))
      (ap (λ (l : List ℕ). s ++ l) m ∙ ap (λ (x : Bool). s ++ pick x (cmac96 mackey s) []) (sym e)) b

pub with_mac_long : (mode : ProtMode) (mackey s : List ℕ)
    → length (with_mac mackey mode s) ≡ length s + mac_length mode
unfolding with_mac
with_mac_long mode mackey s = length-append s (pick (has_mac mode) (cmac96 mackey s) [])
    ∙ ap (λ (k : ℕ). length s + k) (mac_long mode mackey s)

-- ---- the MAC judged

module _ (mackey : List ℕ) (mode : ProtMode) (s mac : List ℕ) where
  pub none_judged : has_mac mode ≡ false → true ≡ mac_fits mackey mode s mac
  unfolding mac_fits
  none_judged e = ap (λ (x : Bool). implies x (both (macs (length s) 12) (same (cmac96 mackey s) mac))) (sym e)

  pub mac_unfit : has_mac mode ≡ true → macs (length s) 12 ≡ false → false ≡ mac_fits mackey mode s mac
  unfolding mac_fits
  mac_unfit e f = ap₂ (λ (x y : Bool). implies x (both y (same (cmac96 mackey s) mac))) (sym e) (sym f)

  pub mac_judged : has_mac mode ≡ true → macs (length s) 12 ≡ true
      → same (cmac96 mackey s) mac ≡ mac_fits mackey mode s mac
  unfolding mac_fits
  mac_judged e f = ap₂ (λ (x y : Bool). implies x (both y (same (cmac96 mackey s) mac))) (sym e) (sym f)
