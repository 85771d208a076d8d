-- Two sheets that are alike but for key bytes of records that are not named: the reader finds the same in both, record
-- by record, and keeps the same of it; the keys that it meets are alike.
use Rattle.sheet.specs.declared.SheetRefusal.{SheetRefusal}
use Rattle.std.specs.Prelude.{Option, Some, None, Result, Ok, Err}
use mathlib.Core.Path.{◌≡◌, refl, ap, ◌∙◌}
use mathlib.Core.Bool.{Bool, true, false}
use mathlib.Core.List.{List, [], ◌∷◌, ◌++◌}
use Prim.Native.Nat.{ℕ, ◌+◌}
use lib.Dec.{eqb, leb}
use lib.ListN.{length, take, drop}
use borrow.Author.Tests.{eqb-true}
use Rattle.ground.specs.Bytes.{byte_at, flag}
use Rattle.ground.specs.Choice.{both, implies}
use Rattle.sheet.specs.declared.Key.{Key}
use Rattle.sheet.specs.declared.Kind.{Kind}
use Rattle.sheet.specs.declared.Kind.TheVariants.{FeatureRecord, SizeRecord, KeyRecord, ProfileRecord, LockRecord}
use Rattle.sheet.specs.declared.Kind.TheVariants.{EndRecord}
use Rattle.sheet.specs.declared.SheetFault.{SheetFault}
use Rattle.sheet.specs.declared.Gathered.{Gathered}
use Rattle.sheet.proofs.Openings.{passed}
use Rattle.sheet.specs.declared.Reading.{Reading}
use Rattle.sheet.specs.Kinds.{kind_of, body_length, length_behind}
use Rattle.sheet.specs.Limits.{key_limit}
use Rattle.octets.specs.Alike.{all_zero}
use Rattle.sheet.specs.Records.{key_rule, key_of}
use Rattle.sheet.specs.Judgement.{opened_of, taken_if, with_key, record_of, record_in, judged_of}
use Rattle.sheet.specs.KeysMet.{key_said}
use Rattle.sheet.specs.Sheet.{read_of, said_of, terms_read}
use Rattle.silence.specs.Silence.{RecordAlike, RecordsAlike, SetupsAlike}
use Rattle.silence.specs.Sheets.{KeyBodiesAlike, BodiesAlike}

module _ (named : ℕ → Bool) where
  pub none_alike : RecordsAlike named [] []
  unfolding RecordsAlike
  none_alike = tt

  pub joined_alike : (ks ls ms ns : List Key) → RecordsAlike named ks ls → RecordsAlike named ms ns
      → RecordsAlike named (ks ++ ms) (ls ++ ns)
  unfolding RecordsAlike
  joined_alike [] [] ms ns h g = g
  joined_alike [] (l ∷ ls) ms ns h g = absurd h
  joined_alike (k ∷ ks) [] ms ns h g = absurd h
  joined_alike (k ∷ ks) (l ∷ ls) ms ns (r, h) g = (r, joined_alike ks ls ms ns h g)

  -- ---- record 03

  module _ (b c : List ℕ) (h : KeyBodiesAlike named b c) where
    -- the rule asks for no key byte but where the MAC key is absent
    zeros_alike : (t : Bool) → eqb (byte_at b 1) 0 ≡ t
        → implies t (all_zero (take 16 (drop 20 b))) ≡ implies t (all_zero (take 16 (drop 20 c)))
    zeros_alike true e = ap all_zero (h.absent (eqb-true (byte_at b 1) 0 e))
    zeros_alike false e = refl

    rule_alike : (id : ℕ) → key_rule id b ≡ key_rule id c
    unfolding key_rule
    rule_alike id =
        let z = zeros_alike (eqb (byte_at b 1) 0) refl in
        let zeros = all_zero (take 16 (drop 20 c)) in
        (λ j. both (leb id (h.id j)) (both (leb (h.mac j) 1) (z j)))
        ∙ (λ j. both (leb id (byte_at c 0)) (both (leb (byte_at c 1) 1) (implies (eqb (h.mac j) 0) zeros)))

    with_key_lem : (k : Gathered) → with_key k b ≡ with_key k c
    unfolding with_key
    with_key_lem k = λ j. record {
      marks = record {
        last = 3;
        keys = k.marks.keys + 1;
        profiles = k.marks.profiles;
        id = h.id j + 1;
        number = k.marks.number;
        area = k.marks.area;
        word = k.marks.word;
      };
      terms = k.terms;
    }

    key_alike : RecordAlike named (key_of b) (key_of c)
    unfolding key_of
    key_alike = record { id = h.id; mac = λ j. flag (h.mac j); mpi = h.mpi; enc = h.enc; mackey = h.mackey }

  -- ---- any record

  record_alike : (q : Kind) (b c : List ℕ) (k : Gathered) → BodiesAlike named (Some q) b c
      → record_of q b k ≡ record_of q c k
  unfolding record_of
  record_alike FeatureRecord b c k h = ap (λ (z : List ℕ). record_of FeatureRecord z k) h
  record_alike SizeRecord b c k h = ap (λ (z : List ℕ). record_of SizeRecord z k) h
  record_alike KeyRecord b c k h = λ j. taken_if (rule_alike b c h k.marks.id j) KeyRecord k (with_key_lem b c h k j)
  record_alike ProfileRecord b c k h = ap (λ (z : List ℕ). record_of ProfileRecord z k) h
  record_alike LockRecord b c k h = ap (λ (z : List ℕ). record_of LockRecord z k) h
  record_alike EndRecord b c k h = refl

  pub said_alike : (q : Option Kind) (b c : List ℕ) → BodiesAlike named q b c
      → RecordsAlike named (key_said q b) (key_said q c)
  unfolding RecordsAlike
  said_alike (Some FeatureRecord) b c h = tt
  said_alike (Some SizeRecord) b c h = tt
  said_alike (Some KeyRecord) b c h = (key_alike b c h, tt)
  said_alike (Some ProfileRecord) b c h = tt
  said_alike (Some LockRecord) b c h = tt
  said_alike (Some EndRecord) b c h = tt
  said_alike None b c h = tt

  -- the record with which two sheets go on, both with the same kind byte and as long
  pub judged_alike : (limit b : ℕ) (u v : List ℕ) (k : Gathered) → length u ≡ length v
      → BodiesAlike named (kind_of b) (take (length_behind (kind_of b)) u) (take (length_behind (kind_of b)) v)
      → judged_of limit (b ∷ u) k ≡ judged_of limit (b ∷ v) k
  unfolding judged_of
  judged_alike limit b u v k e h =
      opened_alike (opened_of limit b (length u) k) refl ∙ (λ j. record_in (opened_of limit b (e j) k) v k)
    where
      opened_alike : (o : Result Kind SheetFault) → opened_of limit b (length u) k ≡ o
          → record_in o u k ≡ record_in o v k
      opened_alike (Ok q) o =
          let known = (passed limit b (length u) k q o).known in
          record_alike q (take (body_length q) u) (take (body_length q) v) k (rw known at h)
      opened_alike (Err f) o = refl

  -- two sheets that are read the same and whose keys are alike set two tags up alike
  pub setup_alike : (u v : List ℕ) → read_of key_limit u ≡ read_of key_limit v
      → RecordsAlike named (said_of key_limit u).keys (said_of key_limit v).keys
      → SetupsAlike named (said_of key_limit u) (said_of key_limit v)
  unfolding said_of
  setup_alike u v r records = record {
    features = ap (λ (q : Result Reading SheetRefusal). (terms_read q).features) r;
    sizes = ap (λ (q : Result Reading SheetRefusal). (terms_read q).sizes) r;
    records = records;
    profiles = ap (λ (q : Result Reading SheetRefusal). (terms_read q).profiles) r;
    locks = ap (λ (q : Result Reading SheetRefusal). (terms_read q).locks) r;
  }
