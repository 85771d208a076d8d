-- The scope paper, "The tag sheet": one record judged against those before it. `limit` is how many key records there
-- may be.
use Rattle.std.specs.Prelude.{◌≡◌, ℕ, ◌+◌, Bool, true, false, not, List, [], ◌∷◌, length, take, set, leb, ltb}
use Rattle.std.specs.Prelude.{Option, Some, None, Result, Ok, Err}
use Rattle.sheet.specs.declared.Finding.TheVariants.{Taken, Ended}
use Rattle.sheet.specs.declared.Finding.{Finding}
use Rattle.ground.specs.Choice.{pick}
use Rattle.ground.specs.Bytes.{byte_at, word_at}
use Rattle.sheet.specs.Limits.{profile_limit, lock_limit}
use Rattle.sheet.specs.Kinds.{kind_of, body_length, record_length, in_order, number_of}
use Rattle.sheet.specs.Records.{
  features_rule,
  features_of,
  sizes_rule,
  sizes_of,
  key_rule,
  profile_rule,
  slot_of,
  lock_rule,
  lock_of,
}
use Rattle.sheet.specs.declared.Kind.{Kind}
use Rattle.sheet.specs.declared.Kind.TheVariants.{
  FeatureRecord,
  SizeRecord,
  KeyRecord,
  ProfileRecord,
  LockRecord,
  EndRecord,
}
use Rattle.sheet.specs.declared.SheetFault.{SheetFault}
use Rattle.sheet.specs.declared.SheetFault.TheVariants.{Cut, Unknown, Order, Value, Many}
use Rattle.sheet.specs.declared.Gathered.{Gathered}
use Rattle.sheet.specs.declared.Judged.{Judged}

-- one more of its kind than there may be
unfoldable pub too_many : ℕ → Kind → Gathered → Bool
too_many limit FeatureRecord k = false
too_many limit SizeRecord k = false
too_many limit KeyRecord k = leb limit k.marks.keys
too_many limit ProfileRecord k = leb profile_limit k.marks.profiles
too_many limit LockRecord k = leb lock_limit k.terms.locks.count
too_many limit EndRecord k = false

abbrev pub shut_if : Bool → SheetFault → Result Kind SheetFault → Result Kind SheetFault
shut_if true f o = Err f
shut_if false f o = o

-- What a kind byte b and the number of bytes after it decide, in the paper's order: 31, 32, 34, 30; or the kind.
abbrev pub opened_as : ℕ → ℕ → ℕ → Gathered → Option Kind → Result Kind SheetFault
opened_as limit b left k None = Err Unknown
opened_as limit b left k (Some q) =
    shut_if (not (in_order k.marks.last b)) Order
    (shut_if (too_many limit q k) Many
    (shut_if (ltb left (body_length q)) Cut
    (Ok q)))

unfoldable pub opened_of : ℕ → ℕ → ℕ → Gathered → Result Kind SheetFault
opened_of limit b left k = opened_as limit b left k (kind_of b)

-- A record that is refused leaves what was gathered; one that is taken takes its kind byte and its body.
abbrev pub refused : SheetFault → Gathered → Judged
refused f k = record { finding = Err f; gathered = k }

abbrev pub taken : Kind → Gathered → Judged
taken q k = record { finding = Ok (Taken (record_length q)); gathered = k }

-- What is gathered after a record of each kind.
unfoldable pub with_features : Gathered → List ℕ → Gathered
with_features k b = record {
  marks = record {
    last = 1;
    keys = k.marks.keys;
    profiles = k.marks.profiles;
    id = k.marks.id;
    number = k.marks.number;
    area = k.marks.area;
    word = k.marks.word;
  };
  terms = record {
    features = features_of b;
    sizes = k.terms.sizes;
    profiles = k.terms.profiles;
    locks = k.terms.locks;
  };
}

unfoldable pub with_sizes : Gathered → List ℕ → Gathered
with_sizes k b = record {
  marks = record {
    last = 2;
    keys = k.marks.keys;
    profiles = k.marks.profiles;
    id = k.marks.id;
    number = k.marks.number;
    area = k.marks.area;
    word = k.marks.word;
  };
  terms = record {
    features = k.terms.features;
    sizes = sizes_of b;
    profiles = k.terms.profiles;
    locks = k.terms.locks;
  };
}

-- the key is counted, and stays where it stands (KeyTable); the next KeyID is above its own
unfoldable pub with_key : Gathered → List ℕ → Gathered
with_key k b = record {
  marks = record {
    last = 3;
    keys = k.marks.keys + 1;
    profiles = k.marks.profiles;
    id = byte_at b 0 + 1;
    number = k.marks.number;
    area = k.marks.area;
    word = k.marks.word;
  };
  terms = k.terms;
}

-- the profile goes to the place of its number; the next number is above its own
unfoldable pub with_profile : Gathered → List ℕ → Gathered
with_profile k b = record {
  marks = record {
    last = 4;
    keys = k.marks.keys;
    profiles = k.marks.profiles + 1;
    id = k.marks.id;
    number = byte_at b 0 + 1;
    area = k.marks.area;
    word = k.marks.word;
  };
  terms = record {
    features = k.terms.features;
    sizes = k.terms.sizes;
    profiles = set k.terms.profiles (byte_at b 0) (slot_of b);
    locks = k.terms.locks;
  };
}

-- the lock goes behind those before it; the next is held against its area and its end
unfoldable pub with_lock : Gathered → List ℕ → Gathered
with_lock k b = record {
  marks = record {
    last = 5;
    keys = k.marks.keys;
    profiles = k.marks.profiles;
    id = k.marks.id;
    number = k.marks.number;
    area = byte_at b 0;
    word = word_at b 1 + word_at b 3;
  };
  terms = record {
    features = k.terms.features;
    sizes = k.terms.sizes;
    profiles = k.terms.profiles;
    locks = record {
      count = k.terms.locks.count + 1;
      table = set k.terms.locks.table k.terms.locks.count (lock_of b);
    };
  };
}

-- A whole record of kind q with the body b. 33: a value against its rule; else it is taken.
abbrev pub taken_if : Bool → Kind → Gathered → Gathered → Judged
taken_if fits q k next = pick fits (taken q next) (refused Value k)

unfoldable pub record_of : Kind → List ℕ → Gathered → Judged
record_of FeatureRecord b k = taken_if (features_rule b) FeatureRecord k (with_features k b)
record_of SizeRecord b k = taken_if (sizes_rule b) SizeRecord k (with_sizes k b)
record_of KeyRecord b k = taken_if (key_rule k.marks.id b) KeyRecord k (with_key k b)
record_of ProfileRecord b k =
    taken_if (profile_rule k.marks.number k.terms.sizes b) ProfileRecord k (with_profile k b)
record_of LockRecord b k =
    taken_if (lock_rule k.marks.area k.marks.word k.terms.sizes b) LockRecord k (with_lock k b)
record_of EndRecord b k = record { finding = (Ok Ended); gathered = k }

-- the record of the kind that was opened, with its body in front of t
abbrev pub record_in : Result Kind SheetFault → List ℕ → Gathered → Judged
record_in (Ok q) t k = record_of q (take (body_length q) t) k
record_in (Err f) t k = refused f k

-- The record with which these bytes start. 30 also where the kind byte is missing.
unfoldable pub judged_of : ℕ → List ℕ → Gathered → Judged
judged_of limit [] k = refused Cut k
judged_of limit (b ∷ t) k = record_in (opened_of limit b (length t) k) t k

-- the number of a finding; 0 for a record that is taken or that ends the sheet
abbrev pub finding_number : Result Finding SheetFault → ℕ
finding_number (Ok (Taken n)) = 0
finding_number (Ok Ended) = 0
finding_number (Err f) = number_of f

-- A finding, and what is gathered after it, that are this judgement.
abbrev pub IsJudgement : Result Finding SheetFault → Gathered → Judged → Type 0
IsJudgement r k j = record { finding = r; gathered = k } ≡ j

-- A judgement that is this one, by name and by number.
abbrev pub JudgedAs : Judged → Judged → Type 0
JudgedAs r x = (r ≡ x) × (finding_number r.finding ≡ finding_number x.finding)

-- the number by which the record with which these bytes start is refused, and 0 where it is not
unfoldable pub judged_number : ℕ → List ℕ → Gathered → ℕ
judged_number limit s k = finding_number (judged_of limit s k).finding
