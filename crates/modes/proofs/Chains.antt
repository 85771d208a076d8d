-- A chain over the blocks of a slice, written into a room: one law for every form of chaining, `G`.
use mathlib.Core.Path.{◌≡◌, sym, ap, ap₂, ◌∙◌}
use mathlib.Core.List.{List, [], ◌∷◌, ◌++◌, append_assoc, append-nil}
use Prim.Native.Nat.{ℕ, suc, ◌+◌, ◌-◌, ◌/◌, ◌≤◌, ◌<◌}
use native.Mathlib.Omega.{arith}
use lib.ListN.{length, take, drop, length-drop, length-append, drop_of_length-le}
use lib.Seq.{take_all, take_at, drop_at, drop-drop}
use Rattle.modes.specs.Blocks.{blocks, whole_blocks, joined}
use Rattle.modes.specs.Room.{over}

-- ---- the blocks of a list

pub no_block : (s : List ℕ) → length s < 16 → whole_blocks s ≡ []
unfolding whole_blocks blocks
no_block s h = let e : length s / 16 ≡ 0 = omega arith in ap (λ (n : ℕ). blocks n s) e

pub first_and_rest : (s : List ℕ) → 16 ≤ length s → whole_blocks s ≡ take 16 s ∷ whole_blocks (drop 16 s)
unfolding whole_blocks blocks
first_and_rest s h =
    let e : length s / 16 ≡ suc (length (drop 16 s) / 16) = omega (arith, length-drop 16 s) in
    ap (λ (n : ℕ). blocks n s) e

-- ---- a part that runs to the end

pub tail_part : (k : ℕ) (s : List ℕ) → take (length s - k) (drop k s) ≡ drop k s
tail_part k s = take_all (length s - k) (drop k s) (simp length-drop (omega arith))

nothing_after : (k : ℕ) (s : List ℕ) → drop (length s - k) (drop k s) ≡ []
nothing_after k s = drop_of_length-le (drop k s) {i = length s - k} (simp length-drop (omega arith))

-- ---- the chain in a room

-- `front` and `rest` over the first bytes of a room, one behind the other
pub over_both : (front rest room : List ℕ) (n : ℕ) → length front ≡ n
    → front ++ over rest (drop n room) ≡ over (front ++ rest) room
over_both front rest room n e =
    sym (append_assoc front rest (drop (length rest) (drop n room)))
    ∙ ap (λ (l : List ℕ). (front ++ rest) ++ l) (drop-drop (length rest) n room
    ∙ ap (λ (k : ℕ). drop k room) (sym (length-append front rest ∙ ap (λ (k : ℕ). k + length rest) e)))

-- What a room will hold: what stands before a place stays, and the blocks of s from there on are chained to `chained`.
abbrev pub onward : (List ℕ → List (List ℕ) → List (List ℕ)) → List ℕ → ℕ → List ℕ → List ℕ → List ℕ
onward G s at chained room = take at room ++ over (joined (G chained (whole_blocks (drop at s)))) (drop at room)

module _ (G : List ℕ → List (List ℕ) → List (List ℕ)) (iv s room : List ℕ) where
  -- the part of the room from a place to its end was lent for the blocks from there on, and came back as `last`
  pub rest_chained : (at : ℕ) (last : List ℕ)
      → last ≡ over (joined (G iv (whole_blocks (take (length s - at) (drop at s)))))
      (take (length room - at) (drop at room))
      → take at room ++ (last ++ drop (length room - at) (drop at room)) ≡ onward G s at iv room
  rest_chained at last e = ap (λ (l : List ℕ). take at room ++ l)
      (ap₂ ◌++◌ e (nothing_after at room)
      ∙ append-nil (over (joined (G iv (whole_blocks (take (length s - at) (drop at s)))))
      (take (length room - at) (drop at room)))
      ∙ ap₂ (λ (x y : List ℕ). over (joined (G iv (whole_blocks x))) y) (tail_part at s) (tail_part at room))

  pub chain_none : G iv [] ≡ [] → length s < 16 → room ≡ over (joined (G iv (whole_blocks s))) room
  unfolding joined
  chain_none e h = sym (ap (λ (bs : List (List ℕ)). over (joined bs) room) (ap (G iv) (no_block s h) ∙ e))

-- the first block is done, and the chain goes on in the rest of the room, which comes back as `last`
pub chain_more : (G : List ℕ → List (List ℕ) → List (List ℕ)) (iv s room next o room₁ last : List ℕ)
    → 16 ≤ length s → length o ≡ 16
    → ((bs : List (List ℕ)) → G iv (take 16 s ∷ bs) ≡ o ∷ G next bs)
    → room₁ ≡ o ++ drop 16 room
    → last ≡ over (joined (G next (whole_blocks (take (length s - 16) (drop 16 s)))))
    (take (length room₁ - 16) (drop 16 room₁))
    → take 16 room₁ ++ (last ++ drop (length room₁ - 16) (drop 16 room₁)) ≡ over (joined (G iv (whole_blocks s))) room
unfolding joined
chain_more G iv s room next o room₁ last h lo step put done =
    let rest : List ℕ = joined (G next (whole_blocks (drop 16 s))) in
    rest_chained G next s room₁ 16 last done
    ∙ ap₂ (λ (x y : List ℕ). x ++ over rest y) (ap (take 16) put ∙ take_at o (drop 16 room) 16 lo)
    (ap (drop 16) put ∙ drop_at o (drop 16 room) 16 lo)
    ∙ over_both o rest room 16 lo
    ∙ sym (ap (λ (bs : List (List ℕ)). over (joined bs) room)
    (ap (G iv) (first_and_rest s h) ∙ step (whole_blocks (drop 16 s))))
