-- Demand 1, proved: by the cases of each list.
use Rattle.sheet.specs.declared.SheetRefusal.{SheetRefusal}
use Rattle.std.specs.Prelude.{leb, Result, Ok, Err}
use mathlib.Core.Path.{◌≡◌, refl, sym, ap, ◌∙◌}
use mathlib.Core.Logic.{inl, inr}
use mathlib.Core.Bool.{Bool, true, false}
use mathlib.Core.List.{List, [], ◌∷◌, ◌++◌}
use Prim.Native.Nat.{ℕ}
use lib.ListN.{length, drop}
use Rattle.ground.specs.Choice.{pick, both}
use Rattle.frames.proofs.Joins.{unbuilt}
use Rattle.modes.specs.Room.{over}
use Rattle.sheet.specs.declared.SheetFault.{SheetFault}
use Rattle.sheet.specs.declared.SheetFault.TheVariants.{Cut, Unknown, Order, Value, Many, Tail}
use Rattle.sheet.specs.declared.Gathered.{Gathered}
use Rattle.sheet.specs.declared.Kind.{Kind}
use Rattle.sheet.specs.declared.Kind.TheVariants.{
  FeatureRecord,
  SizeRecord,
  KeyRecord,
  ProfileRecord,
  LockRecord,
  EndRecord,
}
use Rattle.sheet.specs.declared.Judged.{Judged}
use Rattle.sheet.specs.declared.Reading.{Reading}
use Rattle.sheet.specs.Kinds as sheet
use Rattle.sheet.specs.Setups.{empty_terms}
use Rattle.sheet.specs.Records.{features_rule, sizes_rule, key_rule, profile_rule, lock_rule}
use Rattle.sheet.specs.Judgement.{
  judged_of,
  opened_of,
  record_of,
  taken,
  refused,
  record_in,
  with_features,
  with_sizes,
  with_key,
  with_profile,
  with_lock,
}
use Rattle.sheet.specs.Limits.{key_limit}
use Rattle.sheet.specs.Sheet.{read_of, after, verdict_of, terms_read, keys_read}
use Rattle.offer.specs.declared.TagFault.{TagFault}
use Rattle.offer.specs.declared.TagFault.TheVariants.{
  OtherError,
  NotSupported,
  MemoryOverrun,
  MemoryWriteError,
  OutOfTurn,
  ProofWrong,
  BenchFault,
}
use Rattle.tag.specs.declared.Tag.{Tag}
use Rattle.tag.specs.States.{keyed, keyless}
use Rattle.offer.specs.Outcomes as outcomes
use Rattle.tag.specs.Reactions.{lent}
use Rattle.tag.proofs.Unchanged.{refusal_unchanged}
use Rattle.claims.specs.Answered.{Among, tag_numbers, sheet_numbers, TagAnswers, SheetAnswers, RecordAnswers}
use Rattle.claims.specs.Answered.{ChainAnswers, LayerAnswers}

-- ---- the tag

pub tag_number : (f : TagFault) → Among tag_numbers (outcomes.number_of f)
tag_number OtherError = refl
tag_number NotSupported = refl
tag_number MemoryOverrun = refl
tag_number MemoryWriteError = refl
tag_number OutOfTurn = refl
tag_number ProofWrong = refl
tag_number BenchFault = refl

pub tag_answers : TagAnswers
tag_answers table tag identity user b x f h e =
    let c = lent b.message b.draws b.room identity user in
    let k = refusal_unchanged c (keyed tag table) f (sym h.outcome ∙ e) in
    let next = h.next ∙ ap keyless k.tag in
    record {
      number = tag_number f;
      silent = h.reply ∙ ap (λ (l : List ℕ). over l b.room) k.silent;
      identity_kept = h.identity ∙ k.identity;
      user_kept = h.user ∙ k.user;
      terms = ap (λ (t : Tag). t.terms) next;
      session = ap (λ (t : Tag). t.session) next;
    }

-- ---- the sheet

pub sheet_number : (f : SheetFault) → Among sheet_numbers (sheet.number_of f)
sheet_number Cut = refl
sheet_number Unknown = refl
sheet_number Order = refl
sheet_number Value = refl
sheet_number Many = refl
sheet_number Tail = refl

-- a record that is refused leaves what was gathered
abbrev Leaves : Gathered → Judged → Type 0
Leaves k j = (f : SheetFault) → j.finding ≡ Err f → j.gathered ≡ k

record_leaves : (t : Bool) (q : Kind) (k next : Gathered) → Leaves k (pick t (taken q next) (refused Value k))
record_leaves true q k next f e = absurd cc
record_leaves false q k next f e = refl

kind_leaves : (q : Kind) (b : List ℕ) (k : Gathered) → Leaves k (record_of q b k)
unfolding record_of
kind_leaves FeatureRecord b k = record_leaves (features_rule b) FeatureRecord k (with_features k b)
kind_leaves SizeRecord b k = record_leaves (sizes_rule b) SizeRecord k (with_sizes k b)
kind_leaves KeyRecord b k = record_leaves (key_rule k.marks.id b) KeyRecord k (with_key k b)
kind_leaves ProfileRecord b k = record_leaves (profile_rule k.marks.number k.terms.sizes b) ProfileRecord k
    (with_profile k b)
kind_leaves LockRecord b k = record_leaves (lock_rule k.marks.area k.marks.word k.terms.sizes b) LockRecord k
    (with_lock k b)
kind_leaves EndRecord b k = λ f e. refl

opened_leaves : (o : Result Kind SheetFault) (t : List ℕ) (k : Gathered) → Leaves k (record_in o t k)
opened_leaves (Ok q) t k = kind_leaves q _ k
opened_leaves (Err g) t k = λ f e. refl

judged_leaves : (s : List ℕ) (k : Gathered) → Leaves k (judged_of key_limit s k)
unfolding judged_of
judged_leaves [] k = λ f e. refl
judged_leaves (b ∷ t) k = opened_leaves (opened_of key_limit b (length t) k) t k

pub record_answers : RecordAnswers
record_answers s k f e = (sheet_number f, judged_leaves s k f e)

-- a sheet that is refused gives no tag
pub nothing_said : (r : Result Reading SheetRefusal) (x : SheetRefusal) → verdict_of r ≡ Err x
    → (terms_read r ≡ empty_terms) × (keys_read r ≡ 0)
nothing_said (Ok r) x e = absurd cc
nothing_said (Err y) x e = (refl, refl)

pub sheet_answers : SheetAnswers
sheet_answers s f at e = let h = nothing_said (read_of key_limit s) _ e in (sheet_number f, h.0, h.1)

-- ---- chaining and MAC, and the parts of messages

pub chain_answers : ChainAnswers
chain_answers true out before r after h = inl h.number
chain_answers false out before r after h = inr (h.number, h.leaves)

pub layer_answers : LayerAnswers
layer_answers fit n message before r after h e = h.holds
    ∙ ap (λ (t : Bool). pick t (message ++ drop n before) before)
    (unbuilt (both fit (leb n (length before))) n (sym e ∙ h.says))
