-- The words that a message may ask for in a record's name are open, so two memories that are alike show the same
-- window.
use mathlib.Core.Path.{◌≡◌, refl, sym, ◌∙◌, subst}
use mathlib.Core.Bool.{Bool, true, false}
use mathlib.Core.List.{List}
use Prim.Native.Nat.{ℕ, ◌+◌, ◌*◌, ◌/◌, ◌%◌, ◌≤◌, ◌<◌}
use native.Mathlib.Omega.{arith}
use lib.Dec.{eqb}
use lib.ListN.{length, get_or}
use borrow.Author.Tests.{eqb-true, eqb-false}
use Rattle.memory.specs.declared.Area.{Area}
use Rattle.memory.specs.declared.Area.TheVariants.{Identity, User}
use Rattle.memory.specs.declared.Block.{Block}
use Rattle.memory.specs.Address.{area_number, same_area, address_of, overruns}
use Rattle.memory.specs.Areas.{area_of, window_of}
use Rattle.memory.specs.Rights.{permitted}
use Rattle.memory.proofs.Windows.{word_inside, window_agree}
use Rattle.sheet.specs.Setups.{Setup}
use Rattle.frames.specs.declared.Custom.{Custom}
use Rattle.frames.specs.Asked.{block_asked as words_asked}
use Rattle.keytable.specs.Named.{has_key, key_with}
use Rattle.offer.specs.Records.{slot_named, block_asked}
use Rattle.silence.specs.Names.{Open}
use Rattle.silence.specs.Silence.{word_of, Memory, MemoriesAlike, SameChange}

-- a byte is one of the two of its word
pub byte_of_word : (s t : List ℕ) (i : ℕ) → word_of s (i / 2) ≡ word_of t (i / 2) → get_or s i 0 ≡ get_or t i 0
byte_of_word s t i e = tested (eqb (i % 2) 0) refl
  where
    tested : (b : Bool) → eqb (i % 2) 0 ≡ b → get_or s i 0 ≡ get_or t i 0
    tested true h =
        let z = eqb-true (i % 2) 0 h in
        let n : i / 2 * 2 ≡ i = omega arith in
        subst (λ (k : ℕ). get_or s k 0 ≡ get_or t k 0) n (λ j. (e j).0)
    tested false h =
        let z = eqb-false (i % 2) 0 h in
        let n : i / 2 * 2 + 1 ≡ i = omega arith in
        subst (λ (k : ℕ). get_or s k 0 ≡ get_or t k 0) n (λ j. (e j).1)

module _ (named : ℕ → Bool) (setup : Setup) where
  -- Every word of a block is open.
  abbrev pub AllOpen : Block → Type 0
  AllOpen block = (w : ℕ) → block.first.0 ≤ w → w < block.first.0 + block.words → Open named setup block.area w

  -- what a message asks for in the name of a record with the right to it, inside a profile
  pub asked_open : (c : Custom) (keyid : ℕ) → named keyid ≡ true → has_key keyid setup.keys ≡ true
      → permitted (key_with keyid setup.keys).mpi c.profile ≡ true
      → (slot_named setup.profiles c.profile).present ≡ true
      → overruns (slot_named setup.profiles c.profile).profile (block_asked setup.profiles c) ≡ false
      → AllOpen (block_asked setup.profiles c)
  unfolding block_asked words_asked address_of
  asked_open c keyid n k r p o w f l =
      let h = word_inside (slot_named setup.profiles c.profile).profile c.blocksize c.offset
      (c.blockcount + 1) w o f l in
      record {
        keyid = keyid;
        name = n;
        key = k;
        profile = c.profile;
        right = r;
        present = p;
        its = refl;
        from =
            h.0;
        before = h.1;
      }

  module _ (x y : Memory) (m : MemoriesAlike named setup x y) where
    area_long : (a : Area) → length (area_of a x.identity x.user) ≡ length (area_of a y.identity y.user)
    unfolding area_of
    area_long Identity = m.identity_length
    area_long User = m.user_length

    area_same : (a : Area) (w : ℕ) → Open named setup a w
        → word_of (area_of a x.identity x.user) w ≡ word_of (area_of a y.identity y.user) w
    unfolding area_of
    area_same Identity w o = m.identity w o
    area_same User w o = m.user w o

    pub window_alike : (block : Block) → AllOpen block
        → window_of x.identity x.user block ≡ window_of y.identity y.user block
    window_alike block o =
        window_agree block x.identity x.user y.identity y.user (area_long block.area)
        (λ i p q. byte_of_word (area_of block.area x.identity x.user)
        (area_of block.area y.identity y.user) i
        (area_same block.area (i / 2) (o (i / 2) (omega arith) (omega arith))))

    named_area : (a b : Area) (w : ℕ) → same_area a b ≡ true → Open named setup b w → Open named setup a w
    unfolding same_area area_number
    named_area Identity Identity w e o = o
    named_area Identity User w e o = let z : ◌≡◌ {A = ℕ} 0 1 = eqb-true 0 1 e in absurd (omega arith)
    named_area User Identity w e o = let z : ◌≡◌ {A = ℕ} 1 0 = eqb-true 1 0 e in absurd (omega arith)
    named_area User User w e o = o

    -- a word of the block, in the area of this name, is the same in both
    pub same_in_block : (a : Area) (block : Block) → AllOpen block → (w : ℕ) → same_area a block.area ≡ true
        → block.first.0 ≤ w → w < block.first.0 + block.words
        → word_of (area_of a x.identity x.user) w ≡ word_of (area_of a y.identity y.user) w
    same_in_block a block o w e p q = area_same a w (named_area a block.area w e (o w p q))

    -- what is open is so in what the same change makes of both
    pub still_alike : (i j u v : List ℕ) → SameChange x.identity y.identity i j
        → SameChange x.user y.user u v
        → MemoriesAlike named setup (record { identity = i; user = u }) (record { identity = j; user = v })
    still_alike i j u v f g = record {
      identity_length = f.long ∙ m.identity_length ∙ sym f.long';
      user_length = g.long ∙ m.user_length ∙ sym g.long';
      identity = λ w o. f.agreed w (m.identity w o);
      user = λ w o. g.agreed w (m.user w o);
    }
