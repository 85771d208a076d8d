-- What an accepted sheet says fits an image.
use Rattle.sheet.specs.declared.SheetRefusal.{SheetRefusal}
use Rattle.std.specs.Prelude.{Result, Ok}
use mathlib.Core.Path.{◌≡◌, refl, sym, ap, subst, ◌∙◌}
use mathlib.Core.Bool.{Bool}
use mathlib.Core.List.{List}
use Prim.Native.Nat.{ℕ, zero, suc, ◌*◌, ◌≤◌}
use native.Mathlib.Omega.{arith}
use lib.ListN.{length, drop, length-take}
use Rattle.ground.specs.Choice.{pick}
use Rattle.ground.specs.Bytes.{Bytes}
use Rattle.sheet.specs.declared.Reading.{Reading}
use Rattle.sheet.specs.declared.Terms.{Terms}
use Rattle.sheet.specs.Limits.{key_limit, profile_limit, lock_limit}
use Rattle.sheet.specs.KeyTable.{record_count, records_in, keys_in, key_table}
use Rattle.sheet.specs.Sheet.{read_of, said_of, Accepted, verdict_of, terms_read, keys_read}
use Rattle.sheet.specs.Within.{Within}
use Rattle.sheet.specs.Writer.{keys_written}
use Rattle.sheet_laws.proofs.RoundTrip.{written_read, written_table}
use Rattle.sheet_laws.proofs.Sheets.{accepted}
use Rattle.entry.specs.declared.Session.{Session}
use Rattle.entry.specs.Sessions.{cleared}
use Rattle.tag.specs.States.{holding}
use Rattle.image.specs.Image.{image_of, tag_image}
use Rattle.image.specs.Kept.{accepts, sheet_image, Laid}

records_length : (n : ℕ) (s : List ℕ) → length (records_in n s) ≡ n
unfolding records_in
records_length zero s = refl
records_length (suc n) s = ap suc (records_length n (drop 37 s))

keys_count : (s : List ℕ) → length (keys_in s) ≡ record_count s
unfolding keys_in
keys_count s = records_length (record_count s) s

-- terms and a key table for which an image has room
pub record Fitting (t : Terms) (table : List ℕ) : Type 0 where
  pub profiles : length t.profiles ≡ profile_limit
  pub locks : length t.locks.table ≡ lock_limit
  pub count : t.locks.count ≤ lock_limit
  pub whole : length table ≡ 37 * record_count table
  pub few : record_count table ≤ key_limit

module _ (sheet : List ℕ) (y : Bytes sheet) (e : Accepted key_limit sheet) where
  within : Within key_limit (said_of key_limit sheet)
  within = (accepted key_limit sheet y e).0

  abbrev n : ℕ
  n = keys_read (read_of key_limit sheet)

  abbrev table : List ℕ
  table = key_table sheet n

  -- as many records were counted as the sheet says keys, and as stand in the table
  keys_said : n ≡ length (said_of key_limit sheet).keys
  keys_said =
      ap (λ (s : List ℕ). keys_read (read_of key_limit s)) (sym (accepted key_limit sheet y e).1)
      ∙ ap keys_read (written_read key_limit (said_of key_limit sheet) within)

  counted : n ≡ record_count table
  unfolding said_of
  counted = keys_said ∙ keys_count table

  no_longer : length table ≤ 37 * n
  unfolding key_table
  no_longer = simp length-take (omega arith)

  pub said_fits : Fitting (terms_read (read_of key_limit sheet)) table
  unfolding said_of
  said_fits = record {
    profiles = within.slots;
    locks = within.lock_table.all;
    count = within.lock_table.few;
    whole = omega (arith, counted, no_longer);
    few = subst (λ (k : ℕ). k ≤ key_limit) (keys_count table) within.few;
  }

  pub said_room : length table ≤ 592
  unfolding key_limit
  said_room = omega (arith, said_fits.whole, said_fits.few)

  -- the table is the keys as they are written, so that the sheet's image is that of the tag
  table_written : table ≡ keys_written (said_of key_limit sheet).keys
  table_written =
      (λ j. key_table (sym (accepted key_limit sheet y e).1 j) (keys_said j))
      ∙ written_table key_limit (said_of key_limit sheet) within

  pub said_image : (s : Session) → sheet_image s sheet ≡ tag_image (holding (said_of key_limit sheet) s)
  unfolding said_of
  said_image s = ap (image_of s (terms_read (read_of key_limit sheet))) table_written

-- ---- what `lay` leaves

module _ (sheet : List ℕ) (q : Result Reading SheetRefusal) (e : q ≡ read_of key_limit sheet) where
  module _ (r : Reading) (h : q ≡ Ok r) (t : List ℕ) (f : t ≡ key_table sheet r.keys) where
    said : Ok r ≡ read_of key_limit sheet
    said = sym h ∙ e

    is_accepted : Accepted key_limit sheet
    is_accepted = ap verdict_of (sym said)

    table_is : t ≡ key_table sheet (keys_read (read_of key_limit sheet))
    table_is = f ∙ ap (λ (x : Result Reading SheetRefusal). key_table sheet (keys_read x)) said

    pub laid_fits : Bytes sheet → (r.terms.locks.count ≤ lock_limit) × (length t ≤ 592)
    laid_fits y =
        let w = said_fits sheet y is_accepted in
        let n = ap (λ (x : Result Reading SheetRefusal). (terms_read x).locks.count) said in
        (rw n w.count, rw table_is (said_room sheet y is_accepted))

    pub laid_whole : (image after : List ℕ) → after ≡ image_of cleared r.terms t → Laid sheet image (Ok tt) after
    laid_whole image after g =
        let table = key_table sheet (keys_read (read_of key_limit sheet)) in
        record {
          verdict = ap verdict_of said;
          holds = g
              ∙ ap (λ (l : List ℕ). image_of cleared r.terms l) table_is
              ∙ ap (λ (x : Result Reading SheetRefusal). image_of cleared (terms_read x) table) said
              ∙ sym (ap (λ (b : Bool). pick b (sheet_image cleared sheet) image) (ap accepts is_accepted));
        }
