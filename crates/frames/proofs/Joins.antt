-- Parts put into a room one after the other, and what a builder leaves behind.
use Rattle.std.specs.Prelude.{Option, Some, None}
use mathlib.Core.Path.{◌≡◌, refl, sym, ap, ◌∙◌}
use mathlib.Core.Bool.{Bool, true, false}
use mathlib.Core.List.{List, ◌++◌, append_assoc}
use Prim.Native.Nat.{ℕ, ◌+◌, ◌≤◌, ◌<◌}
use native.Mathlib.Nat.{zero-add}
use borrow.Author.Tests.{le-leb, lt-leb}
use lib.Dec.{leb}
use lib.ListN.{length, take, drop, length-append}
use lib.Seq.{take_at, drop-append-add, drop-drop}
use Rattle.ground.specs.Choice.{pick, both}
use Rattle.frames.specs.Built.{Built}

-- what a room holds once a part is put behind the parts p
put_next : (room r s p d : List ℕ) (n : ℕ) → length p ≡ n → r ≡ p ++ drop n room
    → s ≡ take n r ++ (d ++ drop (n + length d) r)
    → s ≡ (p ++ d) ++ drop (n + length d) room
put_next room r s p d n h e f =
    let t : take n (p ++ drop n room) ≡ p = take_at p (drop n room) n h in
    let u : drop (n + length d) (p ++ drop n room) ≡ drop (n + length d) room =
    ap (λ (k : ℕ). drop (k + length d) (p ++ drop n room)) (sym h) ∙ drop-append-add p (drop n room) (length d)
    ∙ drop-drop (length d) n room in
    f ∙ (rw (e, t, u, append_assoc))

module _ (room a b c : List ℕ) where
  pub joined : (r s t : List ℕ) → length a + length b + length c ≤ length room
      → r ≡ take 0 room ++ (a ++ drop (0 + length a) room)
      → s ≡ take (length a) r ++ (b ++ drop (length a + length b) r)
      → t ≡ take (length a + length b) s ++ (c ++ drop (length a + length b + length c) s)
      → Built true (length a + length b + length c) (a ++ (b ++ c)) room (Some (length a + length b + length c)) t
  joined r s t h e f g =
      let e1 : r ≡ a ++ drop (length a) room = e ∙ (rw (zero-add (length a))) in
      let f1 : s ≡ (a ++ b) ++ drop (length a + length b) room = put_next room r s a b (length a) refl e1 f in
      let g1 : t ≡ ((a ++ b) ++ c) ++ drop (length a + length b + length c) room =
      put_next room s t (a ++ b) c (length a + length b) (length-append a b) f1 g in
      record {
        says = rw (le-leb (length a + length b + length c) (length room) h);
        holds = rw (le-leb (length a + length b + length c) (length room) h, ← append_assoc a b c) g1;
      }

-- a room that is too short
pub too_short : (n : ℕ) (m room : List ℕ) → length room < n → Built true n m room None room
too_short n m room h = record { says = rw (lt-leb n (length room) h); holds = rw (lt-leb n (length room) h) }

-- fields that do not fit
pub refused : (fit : Bool) (n : ℕ) (m room : List ℕ) → fit ≡ false → Built fit n m room None room
refused fit n m room e = record { says = rw e; holds = rw e }

-- fields that fit: the message as its parts
pub built : (fit : Bool) (n k : ℕ) (m l room after : List ℕ) (answer : Option ℕ) → fit ≡ true → k ≡ n → l ≡ m
    → Built true k l room answer after → Built fit n m room answer after
built fit n k m l room after answer e p q h = rw (e, ← p, ← q) h

-- no answer, and an answer, of one test
pub unbuilt : (t : Bool) (n : ℕ) → None ≡ pick t (Some n) None → t ≡ false
unbuilt true n e = cc
unbuilt false n e = refl

pub as_built : (t : Bool) (n k : ℕ) → Some k ≡ pick t (Some n) None → (t ≡ true) × (k ≡ n)
as_built true n k e = (refl, cc)
as_built false n k e = cc

-- what was built stands in the first bytes of the room
pub built_front : (fit : Bool) (n k : ℕ) (m room after : List ℕ) → length m ≡ n → Built fit n m room (Some k) after
    → take n after ≡ m
built_front fit n k m room after e h =
    let p : both fit (leb n (length room)) ≡ true = (as_built (both fit (leb n (length room))) n k h.says).0 in
    let q : after ≡ m ++ drop n room = rw p at h.holds in
    rw q (take_at m (drop n room) n e)
