-- Parts put over the first bytes of a room, one behind the other.
use mathlib.Core.Path.{◌≡◌, refl, sym, ap, ap₂, ◌∙◌}
use mathlib.Core.List.{List, [], ◌++◌, append_assoc, append-nil}
use Prim.Native.Nat.{ℕ, ◌+◌, ◌-◌, ◌≤◌}
use native.Mathlib.Omega.{arith}
use lib.ListN.{length, take, drop, length-append, length-drop, drop_of_length-le, take-append-drop}
use lib.Seq.{take_at, drop_at, drop-drop, length-take-le}
use Rattle.modes.specs.Room.{over}
use Rattle.modes.proofs.Chains.{tail_part}

-- a part that runs to the end of the room, back in its place
pub tail_back : (k : ℕ) (room d z : List ℕ) → z ≡ over d (take (length room - k) (drop k room))
    → take k room ++ (z ++ drop (length room - k) (drop k room)) ≡ take k room ++ over d (drop k room)
tail_back k room d z e =
    let n : drop (length room - k) (drop k room) ≡ [] =
    drop_of_length-le (drop k room) {i = length room - k} (simp length-drop (omega arith)) in
    ap (λ (l : List ℕ). take k room ++ l) (ap (λ (l : List ℕ). z ++ l) n ∙ append-nil z ∙ e
    ∙ ap (over d) (tail_part k room))

-- d behind the part p
over_next : (p d room : List ℕ) (n : ℕ) → length p ≡ n
    → take n (over p room) ++ over d (drop n (over p room)) ≡ over (p ++ d) room
over_next p d room n e =
    ap₂ {C = List ℕ} (λ x y. x ++ over d y) (take_at p (drop (length p) room) n e)
    (drop_at p (drop (length p) room) n e)
    ∙ ap (λ (l : List ℕ). p ++ (d ++ l)) (drop-drop (length d) (length p) room
    ∙ ap (λ (k : ℕ). drop k room) (sym (length-append p d)))
    ∙ sym (append_assoc p d (drop (length (p ++ d)) room))

-- a room is its own first bytes over it
over_front : (n : ℕ) (room : List ℕ) → n ≤ length room → over (take n room) room ≡ room
over_front n room h = ap (λ (k : ℕ). take n room ++ drop k room) (length-take-le n room h) ∙ take-append-drop n room

-- d behind the room's first n bytes
pub over_behind : (n : ℕ) (d room : List ℕ) → n ≤ length room
    → take n room ++ over d (drop n room) ≡ over (take n room ++ d) room
over_behind n d room h =
    ap (λ (l : List ℕ). take n l ++ over d (drop n l)) (sym (over_front n room h))
    ∙ over_next (take n room) d room n (length-take-le n room h)

-- nothing behind them
pub over_none : (n : ℕ) (room : List ℕ) → n ≤ length room → room ≡ over (take n room ++ []) room
over_none n room h = sym (over_front n room h) ∙ ap (λ (l : List ℕ). over l room) (sym (append-nil (take n room)))

-- p, and then p with d behind it
pub over_over : (p d room : List ℕ) → over (p ++ d) (over p room) ≡ over (p ++ d) room
over_over p d room =
    let e : length (p ++ d) ≡ length p + length d = length-append p d in
    ap (λ (l : List ℕ). (p ++ d) ++ l)
    (ap (λ (k : ℕ). drop k (over p room)) e ∙ sym (drop-drop (length d) (length p) (over p room))
    ∙ ap (drop (length d)) (drop_at p (drop (length p) room) (length p) refl)
    ∙ drop-drop (length d) (length p) room ∙ ap (λ (k : ℕ). drop k room) (sym e))

-- a part as long as the room is all of it
pub over_all : (d room : List ℕ) → length d ≡ length room → over d room ≡ d
over_all d room e = ap (λ (l : List ℕ). d ++ l) (drop_of_length-le room {i = length d} (omega arith)) ∙ append-nil d

-- p's front after it was put
pub over_taken : (p room : List ℕ) (n : ℕ) → length p ≡ n → take n (over p room) ≡ p
over_taken p room n e = take_at p (drop (length p) room) n e

-- d put behind p, which was put first
pub put_next : (p d room r s : List ℕ) (k : ℕ) → length p ≡ k → r ≡ over p room → s ≡ take k r ++ over d (drop k r)
    → s ≡ over (p ++ d) room
put_next p d room r s k h e f = f ∙ ap (λ (l : List ℕ). take k l ++ over d (drop k l)) e ∙ over_next p d room k h

-- the same, d put into the part behind p
pub next_back : (p d room r z : List ℕ) (k : ℕ) → length p ≡ k → r ≡ over p room
    → z ≡ over d (take (length r - k) (drop k r))
    → take k r ++ (z ++ drop (length r - k) (drop k r)) ≡ over (p ++ d) room
next_back p d room r z k h e f = put_next p d room r (take k r ++ (z ++ drop (length r - k) (drop k r))) k h e
    (tail_back k r d z f)

-- two parts that fill a room, and three
pub put_two : (a b room r s : List ℕ) (k : ℕ) → length a ≡ k → length a + length b ≡ length room → r ≡ over a room
    → s ≡ take k r ++ over b (drop k r) → s ≡ a ++ b
put_two a b room r s k h n e f = put_next a b room r s k h e f ∙ over_all (a ++ b) room (length-append a b ∙ n)

pub put_three : (a b c room r s t : List ℕ) (k l : ℕ) → length a ≡ k → length a + length b ≡ l
    → l + length c ≡ length room → r ≡ over a room → s ≡ take k r ++ over b (drop k r)
    → t ≡ take l s ++ over c (drop l s) → t ≡ a ++ (b ++ c)
put_three a b c room r s t k l h g n e f w =
    let p : length (a ++ b) ≡ l = length-append a b ∙ g in
    put_next (a ++ b) c room s t l p (put_next a b room r s k h e f) w
    ∙ over_all ((a ++ b) ++ c) room (length-append (a ++ b) c ∙ ap (λ (i : ℕ). i + length c) p ∙ n)
    ∙ append_assoc a b c

-- what is made of a room's front, behind that front
pub front_finished : (s room r : List ℕ) (k : ℕ) (f : List ℕ → List ℕ) → length s ≡ k → r ≡ over s room
    → over (take k r ++ f (take k r)) r ≡ over (s ++ f s) room
front_finished s room r k f h e =
    let t : take k r ≡ s = ap (take k) e ∙ over_taken s room k h in
    ap₂ {C = List ℕ} (λ x y. over (x ++ f x) y) t e ∙ over_over s (f s) room
