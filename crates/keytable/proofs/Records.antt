-- The records of a key table, one after the other, and what they say of a KeyID.
use Prim.Native.Nat.{ℕ, suc, ◌-◌, ◌/◌, ◌<◌, ◌≤◌, ◌+◌}
use native.Mathlib.Omega.{arith}
use mathlib.Core.Path.{◌≡◌, refl, sym, ◌∙◌}
use mathlib.Core.Bool.{true, false}
use mathlib.Core.List.{List, [], ◌∷◌, ◌++◌}
use lib.ListN.{length, take, drop, get_or}
use lib.Seq.{get_or-take, get_or-drop, drop-drop}
use borrow.Author.Tests.{eq-eqb, ne_eqb}
use Rattle.std.proofs.Math.Seq.{take-append_seam, drop-append_seam}
use Rattle.std.proofs.lemmas.List.{take_all, take-take, drop-take, take-append-drop, take-append-le, drop-append-le}
use Rattle.std.proofs.lemmas.List.{length-append, length-drop, length-take-le}
use Rattle.sheet.specs.Records.{key_of}
use Rattle.sheet.specs.KeyTable.{records_in, keys_in}
use Rattle.sheet.specs.declared.Key.{Key}
use Rattle.keytable.specs.Named.{no_key, has_key, key_with}

-- too few bytes for a record
none_whole : (s : List ℕ) → length s < 37 → keys_in s ≡ []
unfolding keys_in records_in
none_whole s h =
    let none : length s / 37 ≡ 0 = omega arith in
    rw none refl

-- a whole record, and the records behind it
one_more : (x s : List ℕ) → length x ≡ 37 → keys_in (x ++ s) ≡ key_of (take 36 (drop 1 x)) ∷ keys_in s
unfolding keys_in records_in
one_more x s h =
    let more : length (x ++ s) / 37 ≡ suc (length s / 37) = omega (arith, length-append x s) in
    let body : take 36 (drop 1 (x ++ s)) ≡ take 36 (drop 1 x) =
    rw (drop-append-le 1 x s (omega arith)) (take-append-le 36 (drop 1 x) s (omega (arith, length-drop 1 x))) in
    let behind : drop 37 (x ++ s) ≡ s = rw h at (drop-append_seam x s) in
    rw (more, body, behind) refl

-- two lists of records say the same of a KeyID
pub record Alike (keyid : ℕ) (ks ls : List Key) : Type 0 where
  pub has : has_key keyid ks ≡ has_key keyid ls
  pub names : key_with keyid ks ≡ key_with keyid ls

-- a part that lies within s is as long as it is to be
pub part_long : (n p : ℕ) (s : List ℕ) → p + n ≤ length s → length (take n (drop p s)) ≡ n
part_long n p s h = length-take-le n (drop p s) (omega (arith, length-drop p s))

-- where a record is read from, and its KeyID
pub read_id : (x : List ℕ) → (key_of (take 36 (drop 1 x))).id ≡ get_or x 1 0
unfolding key_of
read_id x = get_or-take 36 (drop 1 x) 0 0 (omega arith) ∙ get_or-drop 1 x 0 0

module _ (keyid : ℕ) (ls : List Key) (r x s : List ℕ) (at : r ≡ x ++ s) (whole : length x ≡ 37)
    (before : Alike keyid (keys_in r) ls) where
  now : Alike keyid (key_of (take 36 (drop 1 x)) ∷ keys_in s) ls
  now = rw (at, one_more x s whole) at before

  -- the record x has the KeyID
  pub found : (k : Key) → get_or x 1 0 ≡ keyid → k ≡ key_of (take (length x - 1) (drop 1 x))
      → (true ≡ has_key keyid ls) × (k ≡ key_with keyid ls)
  unfolding has_key key_with
  found k same e =
      let here = eq-eqb _ _ (read_id x ∙ same) in
      let n : length x - 1 ≡ 36 = omega arith in
      (simp here at now.has, rw n at e ∙ simp here at now.names)

  pub long_body : length (take (length x - 1) (drop 1 x)) ≡ 36
  long_body = part_long (length x - 1) 1 x (omega arith) ∙ omega arith

  -- it has another
  pub further : (get_or x 1 0 ≡ keyid → ⊥) → Alike keyid (keys_in s) ls
  unfolding has_key key_with
  further other =
      let here = ne_eqb _ _ (λ e. other (sym (read_id x) ∙ e)) in
      record { has = simp here at now.has; names = simp here at now.names }

-- all that is behind four records
pub all_behind : (r : List ℕ) → take (length r - 148) (drop 148 r) ≡ drop 148 r
all_behind r = take_all (length r - 148) (drop 148 r) (omega (arith, length-drop 148 r))

-- four whole records, and what is behind them
pub four_first : (r four rest : List ℕ) → r ≡ four ++ rest → length four ≡ 148
    → (four ≡ take 148 r) × (148 ≤ length r) × (rest ≡ drop 148 r)
four_first r four rest is whole =
    let first : take 148 (four ++ rest) ≡ four = rw whole at (take-append_seam four rest) in
    let behind : drop 148 (four ++ rest) ≡ rest = rw whole at (drop-append_seam four rest) in
    rw is (sym first, omega (arith, length-append four rest), sym behind)

-- Four whole records stand first in r. One of them starts at p.
module _ (keyid : ℕ) (ls : List Key) (r four : List ℕ) (is : four ≡ take 148 r) (whole : 148 ≤ length r) (p : ℕ)
    (within : p + 37 ≤ 148) (before : Alike keyid (keys_in (drop p r)) ls) where
  seam : take 37 (drop p r) ++ drop (p + 37) r ≡ drop p r
  seam = rw (drop-drop 37 p r) at (take-append-drop 37 (drop p r))

  long : length (take 37 (drop p r)) ≡ 37
  long = length-take-le 37 (drop p r) (omega (arith, length-drop p r))

  read_at : get_or (take 37 (drop p r)) 1 0 ≡ get_or four (p + 1) 0
  read_at =
      get_or-take 37 (drop p r) 1 0 (omega arith) ∙ get_or-drop p r 1 0
      ∙ rw is (sym (get_or-take 148 r (p + 1) 0 (omega arith)))

  body_at : take 36 (drop 1 (take 37 (drop p r))) ≡ take 36 (drop (p + 1) four)
  body_at =
      let n : p + 1 + (147 - p) ≡ 148 = omega arith in
      let one : drop 1 (take 37 (drop p r)) ≡ take 36 (drop (p + 1) r) =
      rw (drop-drop 1 p r) at (drop-take 1 36 (drop p r)) in
      let all : drop (p + 1) four ≡ take (147 - p) (drop (p + 1) r) = rw is (rw n at (drop-take (p + 1) (147 - p) r)) in
      rw (one, all)
      (take-take 36 36 (drop (p + 1) r) (omega arith) ∙ sym (take-take 36 (147 - p) (drop (p + 1) r) (omega arith)))

  pub body_long : length (take 36 (drop (p + 1) four)) ≡ 36
  body_long =
      let n : length four ≡ 148 = rw is (length-take-le 148 r whole) in
      part_long 36 (p + 1) four (omega (arith, n))

  pub found_at : (k : Key) → get_or four (p + 1) 0 ≡ keyid → k ≡ key_of (take 36 (drop (p + 1) four))
      → (true ≡ has_key keyid ls) × (k ≡ key_with keyid ls)
  found_at k same e =
      let n : length (take 37 (drop p r)) - 1 ≡ 36 = omega (arith, long) in
      found keyid ls (drop p r) (take 37 (drop p r)) (drop (p + 37) r) (sym seam) long before k (read_at ∙ same)
      (rw (n, body_at) e)

  pub further_at : (get_or four (p + 1) 0 ≡ keyid → ⊥) → Alike keyid (keys_in (drop (p + 37) r)) ls
  further_at other =
      further keyid ls (drop p r) (take 37 (drop p r)) (drop (p + 37) r) (sym seam) long before
      (λ e. other (sym read_at ∙ e))

-- At the second, the third and the fourth of them, and behind them.
module _ (keyid : ℕ) (ls : List Key) (r four : List ℕ) (is : four ≡ take 148 r) (whole : 148 ≤ length r)
    (before : Alike keyid (keys_in r) ls) (first : get_or four 1 0 ≡ keyid → ⊥) where
  pub at_second : Alike keyid (keys_in (drop 37 r)) ls
  at_second = further_at keyid ls r four is whole 0 (omega arith) before first

  module _ (second : get_or four 38 0 ≡ keyid → ⊥) where
    pub at_third : Alike keyid (keys_in (drop 74 r)) ls
    at_third = further_at keyid ls r four is whole 37 (omega arith) at_second second

    module _ (third : get_or four 75 0 ≡ keyid → ⊥) where
      pub at_fourth : Alike keyid (keys_in (drop 111 r)) ls
      at_fourth = further_at keyid ls r four is whole 74 (omega arith) at_third third

      pub behind_four : (get_or four 112 0 ≡ keyid → ⊥) → Alike keyid (keys_in (drop 148 r)) ls
      behind_four fourth = further_at keyid ls r four is whole 111 (omega arith) at_fourth fourth

-- no record is left
pub missing : (keyid : ℕ) (ls : List Key) (r : List ℕ) → length r < 37 → Alike keyid (keys_in r) ls
    → (false ≡ has_key keyid ls) × (no_key ≡ key_with keyid ls)
unfolding has_key key_with
missing keyid ls r h before =
    let b = rw (none_whole r h) at before in
    (b.has, b.names)
