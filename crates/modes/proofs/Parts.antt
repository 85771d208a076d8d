-- A chain in parts: over two parts it is the chain over the first, and then the chain over the second from what the
-- first hands on. So a loop over parts, each chained into its own place of a room, leaves what one chain leaves.
use mathlib.Core.Path.{◌≡◌, refl, sym, ap, ap₂, ◌∙◌}
use mathlib.Core.List.{List, [], ◌∷◌, ◌++◌, append_assoc, append-nil}
use Prim.Native.Nat.{ℕ, ◌+◌, ◌-◌, ◌*◌, ◌%◌, ◌≤◌}
use native.Mathlib.Omega.{arith}
use lib.ListN.{length, take, drop, length-append, length-drop, drop_of_length-le}
use lib.Seq.{take-take, take-add, take_at, drop_at, drop-append-le, drop-append-add, drop-drop, length-take-le}
use Rattle.field.specs.Block.{xor, first_block}
use Rattle.field.proofs.Block.{first_block_is}
use Rattle.modes.specs.Blocks.{whole_blocks, joined}
use Rattle.modes.specs.Cbc.{cbc_enc, cbc_dec}
use Rattle.modes.specs.Room.{over}
use Rattle.modes.specs.Forms.{outputs, handed, xor_sixteen}
use Rattle.modes.proofs.Chains.{over_both, onward}
use Rattle.modes.proofs.Forms.{enc_outputs, dec_outputs}
use Rattle.modes.proofs.Whole.{joined_append, whole_parts, whole_last, whole_count}

-- A form of chaining, block by block: the output block, of what the input block is chained to and of itself; and what
-- it hands on, to which the next block is chained.
pub record Form (G : List ℕ → List (List ℕ) → List (List ℕ)) : Type 0 where
  pub out : List ℕ → List ℕ → List ℕ
  pub on : List ℕ → List ℕ → List ℕ
  pub none : (iv : List ℕ) → G iv [] ≡ []
  pub more : (iv i : List ℕ) (is : List (List ℕ)) → G iv (i ∷ is) ≡ out iv i ∷ G (on iv i) is
  pub sixteen : (iv i : List ℕ) → length (out iv i) ≡ 16

-- The ENC form hands on its output block.
pub enc_form : (F : List ℕ → List ℕ) → ((s : List ℕ) → length (F s) ≡ 16) → Form (cbc_enc F)
unfolding cbc_enc
enc_form F h = record {
  out = λ iv i. F (xor i iv);
  on = λ iv i. F (xor i iv);
  none = λ iv. refl;
  more = λ iv i is. refl;
  sixteen = λ iv i. h (xor i iv);
}

-- The DEC form hands on its input block.
pub dec_form : (F : List ℕ → List ℕ) → Form (cbc_dec F)
unfolding cbc_dec xor
dec_form F = record {
  out = λ iv i. xor (F i) iv;
  on = λ iv i. i;
  none = λ iv. refl;
  more = λ iv i is. refl;
  sixteen = λ iv i. refl;
}

-- The form whose output blocks and what it hands on are given, block by block.
pub form_of : (out on : List ℕ → List ℕ → List ℕ) → ((iv i : List ℕ) → length (out iv i) ≡ 16) → Form (outputs out on)
unfolding outputs
form_of out on h = record {
  out = out;
  on = on;
  none = λ iv. refl;
  more = λ iv i is. refl;
  sixteen = h;
}

-- it is what the last block hands on
handed_last : (on : List ℕ → List ℕ → List ℕ) (bs : List (List ℕ)) (c iv : List ℕ)
    → handed on iv (bs ++ (c ∷ [])) ≡ on (handed on iv bs) c
unfolding handed
handed_last on [] c iv = refl
handed_last on (b ∷ bs) c iv = handed_last on bs c (on iv b)

module _ (G : List ℕ → List (List ℕ) → List (List ℕ)) (f : Form G) where
  -- the chain over two parts
  pub chain_parts : (bs cs : List (List ℕ)) (iv : List ℕ) → G iv (bs ++ cs) ≡ G iv bs ++ G (handed f.on iv bs) cs
  unfolding handed
  chain_parts [] cs iv = ap (λ (os : List (List ℕ)). os ++ G iv cs) (sym (f.none iv))
  chain_parts (b ∷ bs) cs iv =
      f.more iv b (bs ++ cs)
      ∙ ap {B = List (List ℕ)} (λ os. f.out iv b ∷ os) (chain_parts bs cs (f.on iv b))
      ∙ ap (λ (os : List (List ℕ)). os ++ G (handed f.on iv (b ∷ bs)) cs) (sym (f.more iv b bs))

  chain_length : (bs : List (List ℕ)) (iv : List ℕ) → length (joined (G iv bs)) ≡ length bs * 16
  unfolding joined
  chain_length [] iv = ap (λ (os : List (List ℕ)). length (joined os)) (f.none iv)
  chain_length (b ∷ bs) iv =
      ap (λ (os : List (List ℕ)). length (joined os)) (f.more iv b bs)
      ∙ length-append (f.out iv b) (joined (G (f.on iv b) bs))
      ∙ omega (arith, f.sixteen iv b, chain_length bs (f.on iv b))

  -- the last output block
  last_output : (bs : List (List ℕ)) (b iv : List ℕ)
      → drop (length bs * 16) (joined (G iv (bs ++ (b ∷ [])))) ≡ f.out (handed f.on iv bs) b
  unfolding joined
  last_output bs b iv =
      let c = handed f.on iv bs in
      ap (λ (os : List (List ℕ)). drop (length bs * 16) (joined os))
      (chain_parts bs (b ∷ []) iv ∙ ap (λ (os : List (List ℕ)). G iv bs ++ os)
      (f.more c b [] ∙ ap {B = List (List ℕ)} (λ os. f.out c b ∷ os) (f.none (f.on c b))))
      ∙ ap (drop (length bs * 16)) (joined_append (G iv bs) (f.out c b ∷ []))
      ∙ drop_at (joined (G iv bs)) (f.out c b ++ []) (length bs * 16) (chain_length bs iv)
      ∙ append-nil (f.out c b)

  -- ---- a part of n bytes, from `at` to `end`, that is chained in its own place of a room and comes back as `last`
  module _ (s : List ℕ) (at end n : ℕ) (p : at + n ≡ end) (w : n % 16 ≡ 0) (h : end ≤ length s)
      (chained room last : List ℕ) (k : length s ≤ length room)
      (done : last ≡ over (joined (G chained (whole_blocks (take n (drop at s))))) (take n (drop at room))) where
    part_length : length (take n (drop at s)) ≡ n
    part_length = length-take-le n (drop at s) (omega (arith, length-drop at s))

    output_length : length (joined (G chained (whole_blocks (take n (drop at s))))) ≡ n
    output_length =
        chain_length (whole_blocks (take n (drop at s))) chained
        ∙ omega (arith, whole_count (take n (drop at s)), part_length)

    -- all of the part was written
    output_is : last ≡ joined (G chained (whole_blocks (take n (drop at s))))
    output_is =
        let o : List ℕ = joined (G chained (whole_blocks (take n (drop at s)))) in
        let l : length (take n (drop at room)) ≡ n =
        length-take-le n (drop at room) (omega (arith, length-drop at room)) in
        done ∙ ap (λ (r : List ℕ). o ++ r)
        (drop_of_length-le (take n (drop at room)) {i = length o} (omega (arith, l, output_length)))
        ∙ append-nil o

    front_length : length (take at room ++ last) ≡ end
    front_length =
        length-append (take at room) last
        ∙ omega (arith, length-take-le at room (omega arith), ap length output_is, output_length)

    -- the rest of s, chained to what the part hands on, completes it
    part_chained : (next : List ℕ) → next ≡ handed f.on chained (whole_blocks (take n (drop at s)))
        → onward G s end next (take at room ++ (last ++ drop n (drop at room))) ≡ onward G s at chained room
    part_chained next e =
        let front : List ℕ = take at room ++ last in
        let behind : List ℕ = drop n (drop at room) in
        let rest : List ℕ = joined (G next (whole_blocks (drop end s))) in
        let whole : last ++ rest ≡ joined (G chained (whole_blocks (drop at s))) =
        ap₂ ◌++◌ output_is (ap₂ (λ (c x : List ℕ). joined (G c (whole_blocks x))) e
        (sym (drop-drop n at s ∙ ap (λ (i : ℕ). drop i s) p)))
        ∙ sym (joined_append _ _)
        ∙ ap joined (sym (chain_parts (whole_blocks (take n (drop at s))) (whole_blocks (drop n (drop at s))) chained)
        ∙ ap (G chained) (sym (whole_parts n (drop at s) w (omega (arith, length-drop at s))))) in
        ap (λ (l : List ℕ). take end l ++ over rest (drop end l)) (sym (append_assoc (take at room) last behind))
        ∙ ap₂ (λ (x y : List ℕ). x ++ over rest y) (take_at front behind end front_length)
        (drop_at front behind end front_length)
        ∙ append_assoc (take at room) last (over rest behind)
        ∙ ap (λ (l : List ℕ). take at room ++ l) (over_both last rest (drop at room) n (ap length output_is
        ∙ output_length) ∙ ap (λ (l : List ℕ). over l (drop at room)) whole)

    -- ---- the part's last sixteen bytes, read as a block
    module _ (long : 16 ≤ n) (i : ℕ) (d : i ≡ 16) where
      read_at : (l : List ℕ) → end ≤ length l → first_block (take i (drop (end - 16) l)) ≡ take 16 (drop (end - 16) l)
      read_at l g =
          let e : length (take 16 (drop (end - 16) l)) ≡ 16 =
          length-take-le 16 (drop (end - 16) l) (omega (arith, length-drop (end - 16) l)) in
          ap (λ (j : ℕ). first_block (take j (drop (end - 16) l))) d
          ∙ first_block_is (take 16 (drop (end - 16) l)) (omega arith)
          ∙ take-take 16 16 (drop (end - 16) l) (omega arith)

      hands_last : handed f.on chained (whole_blocks (take n (drop at s)))
          ≡ f.on (handed f.on chained (whole_blocks (take (n - 16) (take n (drop at s)))))
          (drop (n - 16) (take n (drop at s)))
      hands_last =
          ap (handed f.on chained)
          (whole_last (n - 16) (take n (drop at s)) (omega arith) (omega (arith, part_length)))
          ∙ handed_last f.on (whole_blocks (take (n - 16) (take n (drop at s)))) (drop (n - 16) (take n (drop at s)))
          chained

      -- of s, where the form hands on its input block
      hands_input : ((iv b : List ℕ) → f.on iv b ≡ b)
          → first_block (take i (drop (end - 16) s)) ≡ handed f.on chained (whole_blocks (take n (drop at s)))
      hands_input same =
          let q = n - 16 in
          let t : List ℕ = drop at s in
          let a : take n t ≡ take q t ++ take 16 (drop q t) =
          ap (λ (j : ℕ). take j t) (let z : n ≡ q + 16 = omega arith in z) ∙ take-add q 16 t in
          let b : drop (end - 16) s ≡ drop q t =
          ap (λ (j : ℕ). drop j s) (let z : end - 16 ≡ at + q = omega arith in z) ∙ sym (drop-drop q at s) in
          read_at s h
          ∙ ap (take 16) b
          ∙ sym (ap (drop q) a ∙ drop_at (take q t) (take 16 (drop q t)) q
          (length-take-le q t (omega (arith, length-drop at s))))
          ∙ sym (hands_last ∙ same _ _)

      -- of the room, where it hands on its output block
      hands_output : ((iv b : List ℕ) → f.on iv b ≡ f.out iv b)
          → first_block (take i (drop (end - 16) (take at room ++ (last ++ drop n (drop at room)))))
          ≡ handed f.on chained (whole_blocks (take n (drop at s)))
      hands_output same =
          let q = n - 16 in
          let behind : List ℕ = drop n (drop at room) in
          let part : List ℕ = take n (drop at s) in
          let all : length last ≡ n = ap length output_is ∙ output_length in
          let lt : length (take at room) ≡ at = length-take-le at room (omega arith) in
          let bs : List (List ℕ) = whole_blocks (take q part) in
          let count : length bs * 16 ≡ q =
          omega (arith, whole_count (take q part), length-take-le q part (omega (arith, part_length))) in
          let read : take 16 (drop (end - 16) (take at room ++ (last ++ behind))) ≡ drop q last =
          ap (λ (j : ℕ). take 16 (drop j (take at room ++ (last ++ behind))))
          (let z : end - 16 ≡ length (take at room) + q = omega (arith, lt) in z)
          ∙ ap (take 16) (drop-append-add (take at room) (last ++ behind) q
          ∙ drop-append-le q last behind (omega arith))
          ∙ take_at (drop q last) behind 16 (omega (arith, length-drop q last)) in
          let last_is : drop q last ≡ f.out (handed f.on chained bs) (drop q part) =
          ap (drop q) (output_is ∙ ap (λ (cs : List (List ℕ)). joined (G chained cs))
          (whole_last q part (omega arith) (omega (arith, part_length))))
          ∙ ap (λ (j : ℕ). drop j (joined (G chained (bs ++ (drop q part ∷ []))))) (sym count)
          ∙ last_output bs (drop q part) chained in
          read_at (take at room ++ (last ++ behind))
          (omega (arith, length-append (take at room) (last ++ behind), length-append last behind, lt, all))
          ∙ read ∙ last_is ∙ sym (hands_last ∙ same _ _)

-- ---- a part from `at` to `end`, chained in its own place, for a loop over the parts: what the part hands on is what
-- the rest is chained to. The code's loop is over any form, and cites this.
pub next_part : (out on : List ℕ → List ℕ → List ℕ) → ((iv i : List ℕ) → length (out iv i) ≡ 16) → (s : List ℕ)
    (at end : ℕ) → (end - at) % 16 ≡ 0 → at + 16 ≤ end → end ≤ length s → (chained room last next : List ℕ)
    → length s ≤ length room
    → last ≡ over (joined (outputs out on chained (whole_blocks (take (end - at) (drop at s)))))
    (take (end - at) (drop at room))
    → next ≡ handed on chained (whole_blocks (take (end - at) (drop at s)))
    → onward (outputs out on) s end next (take at room ++ (last ++ drop (end - at) (drop at room)))
    ≡ onward (outputs out on) s at chained room
unfolding form_of
next_part out on sixteen s at end w long h chained room last next k done e =
    let p : at + (end - at) ≡ end = omega arith in
    part_chained (outputs out on) (form_of out on sixteen) s at end (end - at) p w h chained room last k done next e

-- It at the two forms of the standard, over any way of a cipher; and the same where what a part hands on is read again,
-- as its last block: of the room in the ENC form, of the input in the DEC form.
module _ (F : List ℕ → List ℕ) (s : List ℕ) (at end : ℕ) (w : (end - at) % 16 ≡ 0) (long : at + 16 ≤ end)
    (h : end ≤ length s) (chained room last next : List ℕ) (k : length s ≤ length room) where
  module _ (sixteen : (b : List ℕ) → length (F b) ≡ 16)
      (done : last ≡ over (joined (cbc_enc F chained (whole_blocks (take (end - at) (drop at s)))))
      (take (end - at) (drop at room))) where
    pub enc_part : next ≡ handed (λ iv b. F (xor b iv)) chained (whole_blocks (take (end - at) (drop at s)))
        → onward (cbc_enc F) s end next (take at room ++ (last ++ drop (end - at) (drop at room)))
        ≡ onward (cbc_enc F) s at chained room
    enc_part e =
        let a : List ℕ → List ℕ → List ℕ = λ iv b. F (xor b iv) in
        let is_at : (iv : List ℕ) (bs : List (List ℕ)) → outputs a a iv bs ≡ cbc_enc F iv bs =
        λ iv bs. enc_outputs (λ key. F) [] bs iv in
        let part = take (end - at) (drop at s) in
        let after = take at room ++ (last ++ drop (end - at) (drop at room)) in
        let front = take (end - at) (drop at room) in
        let before : last ≡ over (joined (outputs a a chained (whole_blocks part))) front =
        done ∙ ap (λ (bs : List (List ℕ)). over (joined bs) front)
        (sym (is_at chained (whole_blocks part))) in
        ap (λ (bs : List (List ℕ)). take end after ++ over (joined bs) (drop end after))
        (sym (is_at next (whole_blocks (drop end s))))
        ∙ next_part a a (λ iv b. sixteen (xor b iv)) s at end w long h chained room last next k before e
        ∙ ap (λ (bs : List (List ℕ)). take at room ++ over (joined bs) (drop at room))
        (is_at chained (whole_blocks (drop at s)))

    pub enc_part_read : next ≡ first_block (take (end - (end - 16)) (drop (end - 16)
        (take at room ++ (last ++ drop (end - at) (drop at room)))))
        → onward (cbc_enc F) s end next (take at room ++ (last ++ drop (end - at) (drop at room)))
        ≡ onward (cbc_enc F) s at chained room
    unfolding enc_form
    enc_part_read read =
        let p : at + (end - at) ≡ end = omega arith in
        enc_part (read ∙ hands_output (cbc_enc F) (enc_form F sixteen) s at end (end - at) p w h chained room last k
        done (omega arith) (end - (end - 16)) (omega arith) (λ iv b. refl))

  module _ (done : last ≡ over (joined (cbc_dec F chained (whole_blocks (take (end - at) (drop at s)))))
      (take (end - at) (drop at room))) where
    pub dec_part : next ≡ handed (λ iv b. b) chained (whole_blocks (take (end - at) (drop at s)))
        → onward (cbc_dec F) s end next (take at room ++ (last ++ drop (end - at) (drop at room)))
        ≡ onward (cbc_dec F) s at chained room
    dec_part e =
        let a : List ℕ → List ℕ → List ℕ = λ iv b. xor (F b) iv in
        let is_at : (iv : List ℕ) (bs : List (List ℕ)) → outputs a (λ iv b. b) iv bs ≡ cbc_dec F iv bs =
        λ iv bs. dec_outputs (λ key. F) [] bs iv in
        let part = take (end - at) (drop at s) in
        let after = take at room ++ (last ++ drop (end - at) (drop at room)) in
        let front = take (end - at) (drop at room) in
        let before : last ≡ over (joined (outputs a (λ iv b. b) chained (whole_blocks part))) front =
        done ∙ ap (λ (bs : List (List ℕ)). over (joined bs) front)
        (sym (is_at chained (whole_blocks part))) in
        ap (λ (bs : List (List ℕ)). take end after ++ over (joined bs) (drop end after))
        (sym (is_at next (whole_blocks (drop end s))))
        ∙ next_part a (λ iv b. b) (λ iv b. xor_sixteen (F b) iv) s at end w long h chained room last next k before e
        ∙ ap (λ (bs : List (List ℕ)). take at room ++ over (joined bs) (drop at room))
        (is_at chained (whole_blocks (drop at s)))

    pub dec_part_read : next ≡ first_block (take (end - (end - 16)) (drop (end - 16) s))
        → onward (cbc_dec F) s end next (take at room ++ (last ++ drop (end - at) (drop at room)))
        ≡ onward (cbc_dec F) s at chained room
    unfolding dec_form
    dec_part_read read =
        let p : at + (end - at) ≡ end = omega arith in
        dec_part (read ∙ hands_input (cbc_dec F) (dec_form F) s at end (end - at) p w h chained room last k done
        (omega arith) (end - (end - 16)) (omega arith) (λ iv b. refl))

-- What holds before each part: the blocks before `at` are done, and those from there on, chained to `chained`, complete
-- the chain.
abbrev pub Going : (List ℕ → List (List ℕ) → List (List ℕ)) → List ℕ → List ℕ → List ℕ → ℕ → List ℕ → List ℕ → Type 0
Going G iv s room₀ at chained room =
    (at ≤ length s) × (length room ≡ length room₀)
    × (onward G s at chained room ≡ over (joined (G iv (whole_blocks s))) room₀)
