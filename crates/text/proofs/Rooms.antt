-- A word put over the first characters of a room.
use mathlib.Core.Path.{◌≡◌, sym, ap, ◌∙◌}
use mathlib.Core.Bool.{Bool, true, false}
use mathlib.Core.List.{List, ◌++◌}
use Prim.Native.Nat.{ℕ, ◌+◌, ◌≤◌, ◌<◌}
use native.Mathlib.Numerals.{add-one}
use native.Mathlib.Nat.{zero-add}
use native.Mathlib.Omega.{arith}
use lib.Dec.{leb}
use lib.ListN.{length, take, drop, get_or, set}
use lib.Seq.{paste-suc, take-length, take_at}
use borrow.Author.Tests.{le-leb, lt-leb}
use Rattle.ground.specs.Choice.{pick}
use Rattle.std.specs.Prelude.{Option, Some, None}
use Rattle.text.specs.Room.{Writes}
use Rattle.text.proofs.Choices.{never}

module _ (word room : List ℕ) where
  pub short : length room < length word → Writes word room None room
  short h =
      let t = lt-leb (length word) (length room) h in
      record {
        says = ap (λ (b : Bool). pick b (Some (length word)) None) (sym t);
        holds = ap (λ (b : Bool). pick b (word ++ drop (length word) room) room) (sym t);
      }

  pub wrote : (n : ℕ) (after : List ℕ) → length word ≤ length room → n ≡ length word
      → after ≡ word ++ drop (length word) room → Writes word room (Some n) after
  wrote n after h e f =
      let t = le-leb (length word) (length room) h in
      record {
        says = ap Some e ∙ ap (λ (b : Bool). pick b (Some (length word)) None) (sym t);
        holds = f ∙ ap (λ (b : Bool). pick b (word ++ drop (length word) room) room) (sym t);
      }

  -- the first n characters of the word over the room, and the next
  abbrev pub begun : ℕ → List ℕ
  begun n = take n word ++ drop n room

  pub next : (n : ℕ) (now : List ℕ) (x : ℕ) → n < length word → length word ≤ length room
      → now ≡ begun n → x ≡ get_or word n 0 → set now n x ≡ begun (n + 1)
  next n now x h l e f = rw (add-one, e, f) (simp zero-add at (paste-suc room 0 word n 0 (omega arith) h))

  pub ended : (n : ℕ) → n ≡ length word → begun n ≡ word ++ drop (length word) room
  ended n e = rw (e, take-length)

-- the same word, by another name
pub as_word : (word other room : List ℕ) (n : Option ℕ) (after : List ℕ) → word ≡ other → Writes word room n after
    → Writes other room n after
as_word word other room n after e h = rw e at h

-- an answer: the word stands in the room's first characters
module _ (word room : List ℕ) (n : ℕ) (after : List ℕ) where
  stands_if : (b : Bool) → Some n ≡ pick b (Some (length word)) None
      → after ≡ pick b (word ++ drop (length word) room) room → take n after ≡ word
  stands_if true e f = let same : n ≡ length word = cc in
      ap (take n) f ∙ take_at word (drop (length word) room) n (sym same)
  stands_if false e f = never (cc)

  pub stands : Writes word room (Some n) after → take n after ≡ word
  stands w = stands_if (leb (length word) (length room)) w.says w.holds
