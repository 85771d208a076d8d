-- What holds of the records read so far of a sheet: they keep the rules, and are what is written of what they say.
use mathlib.Core.Path.{◌≡◌}
use mathlib.Core.Bool.{true}
use mathlib.Core.List.{List, [], ◌∷◌, ◌++◌}
use Prim.Native.Nat.{ℕ, ◌≤◌}
use lib.ListN.{length}
use Rattle.memory.specs.declared.Lock.{Lock}
use Rattle.ground.specs.Choice.{implies}
use Rattle.sheet.specs.Limits.{profile_limit, lock_limit, word_limit}
use Rattle.sheet.specs.Setups.{nothing_gathered}
use Rattle.sheet.specs.Judgement.{with_features}
use Rattle.sheet.specs.Writer.{features_body, sizes_body, keys_written, profiles_written, locks_written}
use Rattle.sheet.specs.Within.{KeysRise, SlotsFine, LocksRise}
use Rattle.sheet.specs.declared.Features.{Features}
use Rattle.sheet.specs.declared.Sizes.{Sizes}
use Rattle.sheet.specs.declared.Key.{Key}
use Rattle.sheet.specs.declared.Slot.{Slot}
use Rattle.sheet.specs.declared.Marks.{Marks}
use Rattle.sheet.specs.declared.Gathered.{Gathered}
use Rattle.sheet_laws.proofs.States.{state}
use Rattle.sheet_laws.proofs.Lists.{next_key, next_area, next_word}

-- the lists read so far keep the rules, and the marks are what they leave
pub record Fine (limit : ℕ) (f : Features) (z : Sizes) (m : Marks) (ks : List Key) (ss : List Slot) (ls : List Lock)
    : Type 0 where
  pub iam3 : implies f.iam3 f.iam ≡ true
  pub identity : z.identity ≤ word_limit
  pub user : z.user ≤ word_limit
  pub begun : 2 ≤ m.last
  pub keys : KeysRise 0 ks
  pub key_count : m.keys ≡ length ks
  pub key_next : m.id ≡ next_key 0 ks
  pub key_few : length ks ≤ limit
  pub slots : SlotsFine z ss
  pub slot_next : m.number ≡ length ss
  pub slot_few : length ss ≤ profile_limit
  pub locks : LocksRise 0 0 z ls
  pub area_next : m.area ≡ next_area 0 ls
  pub word_next : m.word ≡ next_word 0 ls
  pub lock_few : length ls ≤ lock_limit
  pub no_slots : m.last ≤ 3 → ss ≡ []
  pub no_locks : m.last ≤ 4 → ls ≡ []

abbrev pub opening : Features → Sizes → List ℕ
opening f z = (1 ∷ features_body f) ++ (2 ∷ sizes_body z)

abbrev pub body : Features → Sizes → List Key → List Slot → List Lock → List ℕ
body f z ks ss ls = opening f z ++ (keys_written ks ++ (profiles_written 0 ss ++ locks_written ls))

-- the bytes read, what is gathered of them, and the keys they say
pub data Sound (limit : ℕ) : List ℕ → Gathered → List Key → Type 0 where
  none : Sound limit [] nothing_gathered []
  first : (f : Features) → implies f.iam3 f.iam ≡ true
      → Sound limit (1 ∷ features_body f) (with_features nothing_gathered (features_body f)) []
  more : (f : Features) (z : Sizes) (m : Marks) (ks : List Key) (ss : List Slot) (ls : List Lock)
      → Fine limit f z m ks ss ls → Sound limit (body f z ks ss ls) (state f z m ss ls) ks
