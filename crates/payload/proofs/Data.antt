-- Header, data and zeros, as they are put into a room and as they are judged.
use Rattle.std.specs.Prelude.{Option, Some, None}
use mathlib.Core.Path.{◌≡◌, refl, sym, ap, ap₂, ◌∙◌}
use mathlib.Core.Bool.{Bool, true, false}
use mathlib.Core.List.{List, [], ◌++◌}
use Prim.Native.Nat.{ℕ, ◌+◌, ◌≤◌}
use native.Mathlib.Omega.{arith}
use borrow.Author.Tests.{le-leb, eq-eqb, ne_eqb}
use lib.Dec.{eqb}
use lib.ListN.{length, take, drop, length-append}
use lib.Seq.{length-take-le}
use Rattle.ground.specs.Choice.{pick, both, implies}
use Rattle.memory.specs.declared.BlockSize.{BlockSize}
use Rattle.frames.specs.declared.Custom.{Custom}
use Rattle.frames.specs.Blocks.{header_length, header_part, data_length, carried, blocks_length}
use Rattle.frames.specs.Built.{Built}
use Rattle.frames.specs.Fields.{custom_fits}
use Rattle.frames.specs.Header.{header_of}
use Rattle.frames.proofs.Bounds.{blocks_most}
use Rattle.frames.proofs.Joins.{built_front, unbuilt, as_built}
use Rattle.frames.proofs.Least.{d_least, header_bound}
use Rattle.frames.proofs.Range.{custom_range}
use Rattle.frames.proofs.Shape.{header_long}
use Rattle.octets.specs.Alike.{same}
use Rattle.payload.specs.Data.{filled, carried_data, header_fits}
use Rattle.payload.proofs.Rooms.{over_built}
use Rattle.payload.proofs.Zeros.{filled_long, filled_twice}

-- ---- the header, in a room of eight

module _ (c : Custom) (answer : Option ℕ) (room hdr : List ℕ) (l : length room ≡ 8)
    (b : Built (custom_fits c) (header_length c.blocksize) (header_of c) room answer hdr)
  where
    -- the answer is the header's length where the fields fit their bits
    header_told : answer ≡ pick (custom_fits c) (Some (header_length c.blocksize)) None
    header_told =
        b.says ∙ ap (λ (x : Bool). pick {A = Option ℕ} x (Some (header_length c.blocksize)) None)
        (ap (both (custom_fits c)) (le-leb (header_length c.blocksize) (length room)
        (omega (arith, header_bound c.blocksize))) ∙ both_all (custom_fits c))
      where
        both_all : (x : Bool) → both x true ≡ x
        both_all true = refl
        both_all false = refl

    pub header_unfit : answer ≡ None → custom_fits c ≡ false
    header_unfit e = unbuilt (custom_fits c) (header_length c.blocksize) (sym e ∙ header_told)

    pub header_refused : (rev : Bool) (p : List ℕ) → rev ≡ true → answer ≡ None → false ≡ header_fits rev c p
    unfolding header_fits
    header_refused rev p r e = ap₂ (λ (x y : Bool). implies x
        (both y (same (take (header_length c.blocksize) p) (header_of c)))) (sym r) (sym (header_unfit e))

    module _ (n : ℕ) (e : answer ≡ Some n) where
      pub header_fit : custom_fits c ≡ true
      header_fit = (as_built (custom_fits c) (header_length c.blocksize) n (sym e ∙ header_told)).0

      pub header_count : n ≡ header_length c.blocksize
      header_count = (as_built (custom_fits c) (header_length c.blocksize) n (sym e ∙ header_told)).1

      pub header_front : take (header_length c.blocksize) hdr ≡ header_of c
      header_front =
          built_front (custom_fits c) (header_length c.blocksize) n (header_of c) room hdr (header_long c) (rw e at b)

      -- what the code takes of it: the header in Rev 1, nothing in Rev 0
      pub header_taken : (rev : Bool) → take (header_part c.blocksize rev) hdr ≡ pick rev (header_of c) []
      unfolding header_part
      header_taken true = header_front
      header_taken false = refl

      pub header_judged : (rev : Bool) (p : List ℕ) → rev ≡ true
          → same (take n p) (take n hdr) ≡ header_fits rev c p
      unfolding header_fits
      header_judged rev p r =
          ap (λ (k : ℕ). same (take k p) (take k hdr)) header_count
          ∙ ap (same (take (header_length c.blocksize) p)) header_front
          ∙ ap₂ (λ (x y : Bool). implies x (both y (same (take (header_length c.blocksize) p) (header_of c))))
          (sym r) (sym header_fit)

-- in Rev 0 there is none to judge
pub no_header : (rev : Bool) (c : Custom) (p : List ℕ) → rev ≡ false → true ≡ header_fits rev c p
unfolding header_fits
no_header rev c p r = ap (λ (x : Bool). implies x (both (custom_fits c)
    (same (take (header_length c.blocksize) p) (header_of c)))) (sym r)

-- what stands before the data is eight bytes at most, whatever it was counted from
pub part_bound : (s : BlockSize) (header : Bool) (n : ℕ) → n ≡ header_part s header → n ≤ 8
unfolding header_part
part_bound s true n e = omega (arith, e, header_bound s)
part_bound s false n e = omega (arith, e)

pub part_long : (rev : Bool) (c : Custom) → length (pick rev (header_of c) []) ≡ header_part c.blocksize rev
unfolding header_part
part_long true c = header_long c
part_long false c = refl

-- ---- header, data and zeros

-- not as much data as BlockCount says
pub other_length : (c : Custom) (k : ℕ) → (k ≡ data_length c.blocksize c.blockcount → ⊥)
    → both (custom_fits c) (eqb k (data_length c.blocksize c.blockcount)) ≡ false
other_length c k h =
    ap (both (custom_fits c)) (ne_eqb k (data_length c.blocksize c.blockcount) h) ∙ none (custom_fits c)
  where
    none : (x : Bool) → both x false ≡ false
    none true = refl
    none false = refl

pub not_fit : (c : Custom) (b : Bool) → custom_fits c ≡ false → both (custom_fits c) b ≡ false
not_fit c b e = ap (λ (x : Bool). both x b) e

-- D blocks hold header and data
pub blocks_hold : (rev : Bool) (c : Custom) → header_part c.blocksize rev + data_length c.blocksize c.blockcount
    ≤ blocks_length c.blocksize rev c.blockcount
unfolding blocks_length carried
blocks_hold rev c = omega (arith, (d_least c.blocksize rev c.blockcount).holds)

-- at most 144 bytes
pub blocks_fit : (rev : Bool) (c : Custom) → custom_fits c ≡ true → blocks_length c.blocksize rev c.blockcount ≤ 144
blocks_fit rev c fit = blocks_most c.blocksize rev c.blockcount (custom_range c fit).blockcount

-- they are D blocks, also where there are fewer data
module _ (rev : Bool) (c : Custom) (words : List ℕ) (few : length words ≤ data_length c.blocksize c.blockcount)
  where
    held : length (pick rev (header_of c) [] ++ words) ≤ blocks_length c.blocksize rev c.blockcount
    held = omega (arith, length-append (pick rev (header_of c) []) words, part_long rev c, blocks_hold rev c)

    pub carried_length : length (carried_data rev c words) ≡ blocks_length c.blocksize rev c.blockcount
    unfolding carried_data
    carried_length =
        filled_long (blocks_length c.blocksize rev c.blockcount) (pick rev (header_of c) [] ++ words) held

    -- and zeros in the place of data that are missing are the zeros behind them
    pub filled_up : carried_data rev c (filled (data_length c.blocksize c.blockcount) words)
        ≡ carried_data rev c words
    unfolding carried_data
    filled_up = filled_twice (pick rev (header_of c) []) words (data_length c.blocksize c.blockcount)
        (blocks_length c.blocksize rev c.blockcount) few
        (omega (arith, part_long rev c, blocks_hold rev c))

module _ (rev : Bool) (c : Custom) (words : List ℕ) (count : length words ≡ data_length c.blocksize c.blockcount)
  where
    pub carried_long : length (carried_data rev c words) ≡ blocks_length c.blocksize rev c.blockcount
    carried_long = carried_length rev c words (omega (arith, count))

    -- the room's first n bytes became header, data and zeros
    pub carried_built : (n : ℕ) (h room z : List ℕ) → custom_fits c ≡ true
        → n ≡ blocks_length c.blocksize rev c.blockcount → n ≤ length room
        → h ≡ pick rev (header_of c) [] → z ≡ filled (length (take n room)) (h ++ words)
        → Built (both (custom_fits c) (eqb (length words) (data_length c.blocksize c.blockcount)))
        (blocks_length c.blocksize rev c.blockcount) (carried_data rev c words) room (Some n) (z ++ drop n room)
    unfolding carried_data
    carried_built n h room z fit e l p q =
        let m = blocks_length c.blocksize rev c.blockcount in
        let w : z ≡ carried_data rev c words =
        q ∙ ap₂ {C = List ℕ} (λ (i : ℕ) (x : List ℕ). filled i (x ++ words)) (length-take-le n room l ∙ e) p in
        over_built (both (custom_fits c) (eqb (length words) (data_length c.blocksize c.blockcount))) m
        (carried_data rev c words) room
        (ap₂ both fit (eq-eqb (length words) (data_length c.blocksize c.blockcount) count)) (omega (arith, e))
        carried_long (z ++ drop n room) n e
        (ap₂ {C = List ℕ} (λ (x : List ℕ) (i : ℕ). x ++ drop i room) w (e ∙ sym carried_long))
