-- The scope paper, "The tag sheet": the kinds of records, and the numbers of the refusals.
use Rattle.std.specs.Prelude.{ℕ, suc, ◌+◌, Bool, eqb, leb, Option, Some, None}
use Rattle.ground.specs.Choice.{pick, both}
use Rattle.sheet.specs.declared.Kind.{Kind}
use Rattle.sheet.specs.declared.Kind.TheVariants.{
  FeatureRecord,
  SizeRecord,
  KeyRecord,
  ProfileRecord,
  LockRecord,
  EndRecord,
}
use Rattle.sheet.specs.declared.SheetFault.{SheetFault}
use Rattle.sheet.specs.declared.SheetFault.TheVariants.{Cut, Unknown, Order, Value, Many, Tail}

-- the kind of a record, by its first byte; other bytes have none
unfoldable pub kind_of : ℕ → Option Kind
kind_of b =
    pick (eqb b 1) (Some FeatureRecord)
    (pick (eqb b 2) (Some SizeRecord)
    (pick (eqb b 3) (Some KeyRecord)
    (pick (eqb b 4) (Some ProfileRecord)
    (pick (eqb b 5) (Some LockRecord)
    (pick (eqb b 6) (Some EndRecord)
    None)))))

-- how many bytes follow the kind byte
abbrev pub body_length : Kind → ℕ
body_length FeatureRecord = 2
body_length SizeRecord = 4
body_length KeyRecord = 36
body_length ProfileRecord = 6
body_length LockRecord = 5
body_length EndRecord = 0

-- the same by what the kind byte is; none where it has no kind
abbrev pub length_behind : Option Kind → ℕ
length_behind (Some q) = body_length q
length_behind None = 0

-- a record is its kind byte and its body
abbrev pub record_length : Kind → ℕ
record_length q = suc (body_length q)

-- where the key records start: behind 01 and 02, which come first
abbrev pub keys_at : ℕ
keys_at = record_length FeatureRecord + record_length SizeRecord

-- whether kind b may follow the kind before it, `last` (0 where b is the first): 01 is first, 02 second, and neither
-- comes again; kinds never fall
unfoldable pub in_order : ℕ → ℕ → Bool
in_order last b =
    pick (eqb last 0) (eqb b 1)
    (pick (eqb last 1) (eqb b 2)
    (both (leb 3 b) (leb last b)))

-- the number of each refusal
abbrev pub number_of : SheetFault → ℕ
number_of Cut = 30
number_of Unknown = 31
number_of Order = 32
number_of Value = 33
number_of Many = 34
number_of Tail = 35
