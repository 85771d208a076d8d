-- Two sheets that are alike are read alike, from the first byte to the end or to the first refusal.
use Rattle.sheet.specs.declared.SheetRefusal.{SheetRefusal}
use Rattle.std.specs.Prelude.{Result, Ok, Err}
use Rattle.sheet.specs.declared.Finding.TheVariants.{Taken, Ended}
use Rattle.sheet.specs.declared.Finding.{Finding}
use Rattle.sheet.specs.declared.SheetFault.{SheetFault}
use mathlib.Core.Path.{◌≡◌, refl, sym, ap, ◌∙◌, subst}
use mathlib.Core.Bool.{Bool}
use mathlib.Core.List.{List, [], ◌∷◌}
use Prim.Native.Nat.{ℕ, zero, suc, ◌+◌}
use lib.ListN.{length, take}
use Rattle.ground.specs.Bytes.{Bytes}
use Rattle.sheet.specs.declared.Judged.{Judged}
use Rattle.sheet.specs.declared.Gathered.{Gathered}
use Rattle.sheet.specs.declared.Key.{Key}
use Rattle.sheet.specs.declared.Reading.{Reading}
use Rattle.sheet.specs.Kinds.{kind_of, length_behind}
use Rattle.sheet.specs.Limits.{key_limit}
use Rattle.sheet.specs.Setups.{nothing_gathered}
use Rattle.sheet.specs.Judgement.{judged_of}
use Rattle.sheet.specs.KeyTable.{records_in, keys_in, key_table}
use Rattle.sheet.specs.KeysMet.{key_said, met_in, met_from, keys_met}
use Rattle.sheet.specs.Sheet.{after, walk, read_of, said_of, verdict_of, keys_read}
use Rattle.sheet_laws.proofs.Sheets.{keys_stand}
use Rattle.silence.specs.Names.{named_in}
use Rattle.silence.specs.Silence.{RecordsAlike}
use Rattle.silence.specs.Sheets.{AlikeFrom, SheetsAlike, SheetsReadAlike, SilentSheets}
use Rattle.claims.proofs.Answered.{nothing_said}
use Rattle.silence.proofs.SheetsAlike.{none_alike, joined_alike, said_alike, judged_alike, setup_alike}
use Rattle.silence.proofs.Silence.{silent}

module _ (named : ℕ → Bool) where
  alike_length : (u v : List ℕ) (body : ℕ) → AlikeFrom named u v body → length u ≡ length v
  unfolding AlikeFrom
  alike_length [] [] body h = refl
  alike_length [] (c ∷ v) body h = absurd h
  alike_length (b ∷ u) [] body h = absurd h
  alike_length (b ∷ u) (c ∷ v) (suc body) h = ap suc (alike_length u v body h)
  alike_length (b ∷ u) (c ∷ v) zero h = ap suc (alike_length u v (length_behind (kind_of b)) h.2)

  -- whether bytes follow the end record
  after_alike : (u v : List ℕ) (body at : ℕ) (k : Gathered) (r : Result Reading SheetRefusal)
      → AlikeFrom named u v body → (f : Result Finding SheetFault) → after f k at u r ≡ after f k at v r
  unfolding after AlikeFrom
  after_alike u v body at k r h (Ok (Taken n)) = refl
  after_alike [] [] body at k r h (Ok Ended) = refl
  after_alike [] (c ∷ v) body at k r h (Ok Ended) = absurd h
  after_alike (b ∷ u) [] body at k r h (Ok Ended) = absurd h
  after_alike (b ∷ u) (c ∷ v) body at k r h (Ok Ended) = refl
  after_alike u v body at k r h (Err f) = refl

  walk_alike : (u v : List ℕ) (body at : ℕ) (k : Gathered) → AlikeFrom named u v body
      → walk key_limit u body at k ≡ walk key_limit v body at k
  unfolding walk AlikeFrom
  walk_alike [] [] body at k h = refl
  walk_alike [] (c ∷ v) body at k h = absurd h
  walk_alike (b ∷ u) [] body at k h = absurd h
  walk_alike (b ∷ u) (c ∷ v) (suc body) at k h = walk_alike u v body (at + 1) k h
  walk_alike (b ∷ u) (c ∷ v) zero at k (e, h, more) =
      let n = length_behind (kind_of b) in
      let judged = judged_alike named key_limit b u v k (alike_length u v n more) h in
      let i = judged_of key_limit (b ∷ u) k in
      let rest = walk_alike u v n (at + 1) i.gathered more in
      let onwards : Judged → Result Reading SheetRefusal = λ j. after j.finding j.gathered at v
      (walk key_limit v n (at + 1) j.gathered) in
      ap (after i.finding i.gathered at u) rest
      ∙ after_alike u v n at i.gathered (walk key_limit v n (at + 1) i.gathered) more i.finding
      ∙ ap onwards judged ∙ ap (λ (z : ℕ). walk key_limit (z ∷ v) zero at k) e

  -- the keys that the walk meets
  met_alike : (u v : List ℕ) (body : ℕ) (k : Gathered) → AlikeFrom named u v body
      → RecordsAlike named (met_from key_limit u body k) (met_from key_limit v body k)
  unfolding met_from AlikeFrom
  met_alike [] [] body k h = none_alike named
  met_alike [] (c ∷ v) body k h = absurd h
  met_alike (b ∷ u) [] body k h = absurd h
  met_alike (b ∷ u) (c ∷ v) (suc body) k h = met_alike u v body k h
  met_alike (b ∷ u) (c ∷ v) zero k (e, h, more) =
      let n = length_behind (kind_of b) in
      let judged = judged_alike named key_limit b u v k (alike_length u v n more) h in
      let i = judged_of key_limit (b ∷ u) k in
      let rest = met_alike u v n i.gathered more in
      let Met : List Key → Type 0 = RecordsAlike named (met_from key_limit (b ∷ u) zero k) in
      let Onwards : Judged → Type 0 =
      λ j. Met (met_in j.finding (key_said (kind_of b) (take n v)) (met_from key_limit v n j.gathered)) in
      subst (λ (z : ℕ). Met (met_from key_limit (z ∷ v) zero k)) e
      (subst Onwards judged (met_in_lem i.finding _ _ _ _ (said_alike named (kind_of b) (take n u) (take n v) h) rest))
    where
      met_in_lem : (f : Result Finding SheetFault) (s t ks ls : List Key) → RecordsAlike named s t
          → RecordsAlike named ks ls → RecordsAlike named (met_in f s ks) (met_in f t ls)
      met_in_lem (Ok (Taken n)) s t ks ls p q = joined_alike named s t ks ls p q
      met_in_lem (Ok Ended) s t ks ls p q = none_alike named
      met_in_lem (Err f) s t ks ls p q = none_alike named

  module _ (u v : List ℕ) (y : Bytes u) (z : Bytes v) (h : SheetsAlike named u v) where
    same : read_of key_limit u ≡ read_of key_limit v
    unfolding read_of
    same = walk_alike u v 0 0 nothing_gathered h

    met : RecordsAlike named (keys_met key_limit u) (keys_met key_limit v)
    unfolding keys_met
    met = met_alike u v 0 nothing_gathered h

    abbrev table : List ℕ → List Key
    table s = keys_in (key_table s (keys_read (read_of key_limit s)))

    -- a refused sheet has no keys
    no_keys : (s : List ℕ) (m : ℕ) → m ≡ 0 → keys_in (key_table s m) ≡ []
    unfolding key_table keys_in records_in
    no_keys s m e = ap (λ (k : ℕ). keys_in (key_table s k)) e

    keys_alike : (w : Result Unit SheetRefusal) → verdict_of (read_of key_limit u) ≡ w
        → RecordsAlike named (table u) (table v)
    unfolding read_of
    keys_alike (Ok tt) e =
        let f : verdict_of (read_of key_limit v) ≡ Ok tt = sym (ap verdict_of same) ∙ e in
        subst (λ (l : List Key). RecordsAlike named l (table v)) (keys_stand key_limit u y e)
        (subst (RecordsAlike named (keys_met key_limit u)) (keys_stand key_limit v z f) met)
    keys_alike (Err x) e =
        let none = (nothing_said (read_of key_limit u) x e).1 in
        let other = sym (ap keys_read same) ∙ none in
        subst (λ (l : List Key). RecordsAlike named l (table v)) (sym (no_keys u _ none))
        (subst (RecordsAlike named []) (sym (no_keys v _ other)) (none_alike named))

pub sheets_read_alike : SheetsReadAlike
unfolding said_of
sheets_read_alike named u v y z h =
    let r = same named u v y z h in
    record {
      verdict = ap verdict_of r;
      setup = setup_alike named u v r (keys_alike named u v y z h (verdict_of (read_of key_limit u)) refl);
    }

pub silent_sheets : SilentSheets
silent_sheets es u v x y p q h mem =
    let r = sheets_read_alike (named_in es) u v p q h in
    (r.verdict, silent es _ _ x y r.setup mem)
