-- Every accepted sheet is a run of records that are taken, and then the end record.
use Rattle.sheet.specs.declared.SheetRefusal.{SheetRefusal}
use Rattle.std.specs.Prelude.{Ok, Result}
use Rattle.sheet.specs.declared.Finding.TheVariants.{Taken, Ended}
use mathlib.Core.Path.{◌≡◌, refl, sym, ap, subst, ◌∙◌}
use mathlib.Core.Bool.{true}
use mathlib.Core.List.{List, [], ◌∷◌, ◌++◌}
use Prim.Native.Nat.{ℕ, ◌+◌, ◌-◌}
use native.Mathlib.Omega.{arith}
use lib.ListN.{length, take, drop, length-drop, take-append-drop}
use lib.Seq.{take-add}
use Rattle.sheet.specs.Kinds.{in_order}
use Rattle.sheet.specs.Setups.{nothing_gathered}
use Rattle.sheet.specs.Judgement.{judged_of}
use Rattle.sheet.specs.Sheet.{read_of, ends, Accepted}
use Rattle.sheet.specs.Refusals.{InTurn, begins, goes_on}
use Rattle.sheet.specs.declared.Gathered.{Gathered}
use Rattle.sheet.specs.declared.Judged.{Judged}
use Rattle.sheet.specs.declared.Reading.{Reading}
use Rattle.sheet.proofs.Walks.{Step, step, nothing_there}
use Rattle.sheet.proofs.Ends.{end}
use Rattle.sheet.proofs.Refusals.{sheet_whole, sheet_says}

-- an end record that is the last byte
only_six : (limit : ℕ) (r : List ℕ) (k : Gathered) → length r ≡ 1 → (judged_of limit r k).finding ≡ (Ok Ended)
    → (r ≡ 6 ∷ []) × (in_order k.marks.last 6 ≡ true)
only_six limit [] k l e = absurd (omega arith)
only_six limit (b ∷ []) k l e =
    let h = end limit b [] k e in
    (ap (λ (x : ℕ). x ∷ []) h.byte, h.ordered)
only_six limit (b ∷ y ∷ t) k l e = absurd (omega arith)

-- What holds before the first record, and after a record that is taken where it held before it, holds at the end of an
-- accepted sheet. P speaks of the bytes read and of what is gathered of them; s is the whole sheet.
module _ (limit : ℕ) (s : List ℕ) (P : List ℕ → Gathered → Type 0)
    (more : (c : List ℕ) (b : ℕ) (t : List ℕ) (k k' : Gathered) (n : ℕ) → c ++ (b ∷ t) ≡ s → Step limit b t k k' n
    → P c k → P (c ++ take n (b ∷ t)) k') where
  pub record Run (r : Result Reading SheetRefusal) : Type 0 where
    pub bytes : List ℕ
    pub gathered : Gathered
    pub holds : P bytes gathered
    pub sheet : bytes ++ (6 ∷ []) ≡ s
    pub ordered : in_order gathered.marks.last 6 ≡ true
    pub says : r ≡ ends gathered

  -- one record, with which the bytes r behind the place p start
  further : (p n : ℕ) (k k' : Gathered) (r : List ℕ) → drop p s ≡ r
      → judged_of limit r k ≡ record { finding = Ok (Taken n); gathered = k' } → P (take p s) k → P (take (p + n) s) k'
  further p n k k' [] e j h =
      let c = nothing_there limit k in
      let f = ap (λ (x : Judged). x.finding) j in
      let z : ◌≡◌ {A = ℕ} 0 1 = cc in
      absurd (omega arith)
  further p n k k' (b ∷ t) e j h =
      let whole : take p s ++ (b ∷ t) ≡ s = ap (λ (l : List ℕ). take p s ++ l) (sym e) ∙ take-append-drop p s in
      let one = step limit b t k n (ap (λ (x : Judged). x.finding) j) in
      let taken = subst (λ (x : Gathered). Step limit b t k x n) (ap (λ (x : Judged). x.gathered) j) one in
      let bytes : take p s ++ take n (b ∷ t) ≡ take (p + n) s =
      ap (λ (l : List ℕ). take p s ++ take n l) (sym e) ∙ sym (take-add p n s) in
      subst (λ (c : List ℕ). P c k') bytes (more (take p s) b t k k' n whole taken h)

  held : {p : ℕ} {k : Gathered} → InTurn limit s 0 nothing_gathered p k → P [] nothing_gathered → P (take p s) k
  held begins b = b
  held (goes_on {p = p} {n = n} {k = k} {k' = k'} h e) b = further p n k k' (drop p s) refl e (held h b)

  pub run : P [] nothing_gathered → Accepted limit s → Run (read_of limit s)
  run b e =
      let k = ((sheet_whole limit s).0 e).0 in
      let c = ((sheet_whole limit s).0 e).1 in
      let p = c.place in
      let l : length (drop p s) ≡ 1 = length-drop p s ∙ (let i : length s - p ≡ 1 = omega (arith, c.last) in i) in
      let six = only_six limit (drop p s) k l c.ended in
      record {
        bytes = take p s;
        gathered = k;
        holds = held c.taken b;
        sheet = ap (λ (r : List ℕ). take p s ++ r) (sym six.0) ∙ take-append-drop p s;
        ordered = six.1;
        says = sheet_says limit s c;
      }
