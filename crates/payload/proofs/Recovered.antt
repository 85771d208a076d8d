-- What was carried is recovered: its header and its filler fit, and its words are those that went in. And nothing else
-- fits.
use mathlib.Core.Path.{◌≡◌, refl, sym, ap, ap₂, ◌∙◌}
use mathlib.Core.Bool.{Bool, true, false}
use mathlib.Core.List.{List, [], ◌++◌, append_assoc}
use Prim.Native.Nat.{ℕ, ◌+◌, ◌-◌}
use native.Mathlib.Omega.{arith}
use lib.ListN.{length, take, drop, length-append, length-drop, take-append-drop}
use lib.Seq.{take_at, drop_at, drop-drop, length-take-le}
use Rattle.ground.specs.Choice.{pick, both}
use Rattle.octets.specs.Alike.{same, all_zero}
use Rattle.octets.proofs.Alike.{same_self, same_equal}
use Rattle.octets.proofs.AllZero.{zeros_all, zeros_only}
use Rattle.frames.specs.declared.Custom.{Custom}
use Rattle.frames.specs.Blocks.{header_length, header_part, data_length, carried, blocks_length}
use Rattle.frames.specs.Fields.{custom_fits}
use Rattle.frames.specs.Header.{header_of}
use Rattle.frames.proofs.Range.{both_right}
use Rattle.frames.proofs.Shape.{header_long}
use Rattle.payload.specs.Data.{filled, carried_data, header_fits, words_in, filler_fits}
use Rattle.payload.proofs.Data.{part_long, blocks_hold}
use Rattle.payload.proofs.Zeros.{zeros_of}

module _ (c : Custom) (words : List ℕ) where
  -- what stands behind header and data
  abbrev filler : Bool → List ℕ
  filler rev = zeros_of (blocks_length c.blocksize rev c.blockcount - length (pick rev (header_of c) [] ++ words))

  -- the header first, and then the words
  apart : (rev : Bool) → carried_data rev c words ≡ pick rev (header_of c) [] ++ (words ++ filler rev)
  unfolding carried_data filled
  apart rev = append_assoc (pick rev (header_of c) []) words (filler rev)

  pub header_carried : (rev : Bool) → custom_fits c ≡ true → header_fits rev c (carried_data rev c words) ≡ true
  unfolding header_fits
  header_carried true fit =
      let n = header_length c.blocksize in
      let e : take n (carried_data true c words) ≡ header_of c = ap (take n) (apart true)
      ∙ take_at (header_of c) (words ++ filler true) n (header_long c) in
      ap₂ both fit (ap (λ (l : List ℕ). same l (header_of c)) e ∙ same_self (header_of c))
  header_carried false fit = refl

  module _ (rev : Bool) (all : length words ≡ data_length c.blocksize c.blockcount) where
    pub words_carried : words_in rev c (carried_data rev c words) ≡ words
    unfolding words_in
    words_carried =
        let h = header_part c.blocksize rev in
        let n = data_length c.blocksize c.blockcount in
        ap (take n) (ap (drop h) (apart rev) ∙ drop_at (pick rev (header_of c) []) (words ++ filler rev) h
        (part_long rev c)) ∙ take_at words (filler rev) n all

    pub filler_carried : filler_fits rev c (carried_data rev c words) ≡ true
    unfolding filler_fits carried carried_data filled
    filler_carried =
        let s = pick rev (header_of c) [] ++ words in
        let k = blocks_length c.blocksize rev c.blockcount - length s in
        let e : drop (carried c.blocksize rev c.blockcount) (s ++ zeros_of k) ≡ zeros_of k =
        drop_at s (zeros_of k) (carried c.blocksize rev c.blockcount)
        (length-append (pick rev (header_of c) []) words ∙ ap₂ (λ (x y : ℕ). x + y) (part_long rev c) all) in
        ap all_zero e ∙ zeros_all k

-- D blocks whose header and filler fit are what their words are carried as
module _ (c : Custom) (p : List ℕ) where
  header_is : (rev : Bool) → header_fits rev c p ≡ true
      → take (header_part c.blocksize rev) p ≡ pick rev (header_of c) []
  unfolding header_fits header_part
  header_is true e = same_equal (take (header_length c.blocksize) p) (header_of c)
      (both_right (custom_fits c) (same (take (header_length c.blocksize) p) (header_of c)) e)
  header_is false e = refl

  module _ (rev : Bool) (long : length p ≡ blocks_length c.blocksize rev c.blockcount) where
    words_long : length (words_in rev c p) ≡ data_length c.blocksize c.blockcount
    unfolding words_in
    words_long =
        let h = header_part c.blocksize rev in
        length-take-le (data_length c.blocksize c.blockcount) (drop h p)
        (omega (arith, length-drop h p, blocks_hold rev c))

    filler_is : filler_fits rev c p ≡ true → drop (header_part c.blocksize rev + data_length c.blocksize
        c.blockcount) p ≡ filler c (words_in rev c p) rev
    unfolding filler_fits carried
    filler_is e =
        let k = header_part c.blocksize rev + data_length c.blocksize c.blockcount in
        let s = pick rev (header_of c) [] in
        zeros_only (drop k p) e
        ∙ ap zeros_of (length-drop k p ∙ ap₂ (λ (i j : ℕ). i - j) long
        (sym (length-append s (words_in rev c p) ∙ ap₂ (λ (i j : ℕ). i + j) (part_long rev c) words_long)))

    pub carried_only : header_fits rev c p ≡ true → filler_fits rev c p ≡ true
        → p ≡ carried_data rev c (words_in rev c p)
    unfolding words_in
    carried_only e f =
        let h = header_part c.blocksize rev in
        let n = data_length c.blocksize c.blockcount in
        let rest : drop h p ≡ words_in rev c p ++ drop (h + n) p = sym (take-append-drop n (drop h p))
        ∙ ap (λ (l : List ℕ). take n (drop h p) ++ l) (drop-drop n h p) in
        sym (take-append-drop h p)
        ∙ ap₂ {C = List ℕ} (λ (x y : List ℕ). x ++ y) (header_is rev e)
        (rest ∙ ap (λ (l : List ℕ). words_in rev c p ++ l) (filler_is f))
        ∙ sym (apart c (words_in rev c p) rev)
