-- Demand 1: every call is answered. That each function takes any input and ends is its own proof, since no contract has
-- a `requires`. Here: each number given is one of the list for that function, and a refusal sends nothing, writes no
-- memory word, and leaves the tag in the state that the list names.
use Rattle.std.specs.Prelude.{◌≡◌, ◌⊎◌, Bool, true, false, List, [], ◌∷◌, ℕ, eqb, length, replicate}
use Rattle.std.specs.Prelude.{Option, None, Result, Err}
use Rattle.modes.specs.declared.ChainingFault.{ChainingFault}
use Rattle.ground.specs.Choice.{either}
use Rattle.modes.specs.Room as room
use Rattle.sheet.specs.declared.SheetFault.{SheetFault}
use Rattle.sheet.specs.declared.Gathered.{Gathered}
use Rattle.sheet.specs.Kinds as sheet
use Rattle.sheet.specs.Setups.{empty_terms}
use Rattle.sheet.specs.Judgement.{judged_of}
use Rattle.sheet.specs.Limits.{key_limit}
use Rattle.sheet.specs.Sheet.{read_of, verdict_of, terms_read, keys_read}
use Rattle.frames.specs.Built.{Built}
use Rattle.offer.specs.declared.TagFault.{TagFault}
use Rattle.tag.specs.declared.Tag.{Tag}
use Rattle.offer.specs.Outcomes as outcomes
use Rattle.tag.specs.States.{session_after}
use Rattle.tag.specs.Plays.{Brought, Left, Called}
use Rattle.reader.specs.declared.ReaderFault.{ReaderFault}
use Rattle.reader_judge.specs.declared.Accepted.{Accepted}
use Rattle.reader.specs.declared.Keys.{Keys}
use Rattle.reader_judge.specs.declared.Worth.TheVariants.{NoData}
use Rattle.reader.specs.Numbers as reader
use Rattle.reader_judge.specs.Findings.{Finding, Judges}
use Rattle.reader_judge.specs.Judged.{judgement_of}
use Rattle.reader_build.specs.Makes.{Makes}

-- The scope paper's numbers: of the tag, of the reader's side, of the sheet.
abbrev pub tag_numbers : List ℕ
tag_numbers = 1 ∷ 2 ∷ 3 ∷ 4 ∷ 5 ∷ 6 ∷ 7 ∷ []

abbrev pub reader_numbers : List ℕ
reader_numbers = 20 ∷ 21 ∷ 22 ∷ 23 ∷ 24 ∷ []

abbrev pub sheet_numbers : List ℕ
sheet_numbers = 30 ∷ 31 ∷ 32 ∷ 33 ∷ 34 ∷ 35 ∷ []

-- A number of a list.
abbrev pub among : List ℕ → ℕ → Bool
among [] n = false
among (k ∷ ks) n = either (eqb n k) (among ks n)

abbrev pub Among : List ℕ → ℕ → Type 0
Among ks n = among ks n ≡ true

-- ---- the tag

-- A call that was refused: its number, the room and both areas with their bytes, and the tag: in Initial with nothing
-- held (1 to 6), or as it was (7).
pub record TagRefused (tag : Tag) (identity user : List ℕ) (b : Brought) (x : Left) (f : TagFault) : Type 0 where
  pub number : Among tag_numbers (outcomes.number_of f)
  pub silent : x.room ≡ b.room
  pub identity_kept : x.identity ≡ identity
  pub user_kept : x.user ≡ user
  pub terms : x.stepped.tag.terms ≡ tag.terms
  pub session : x.stepped.tag.session ≡ session_after f tag.session

-- `tag::step`, by its contract.
abbrev pub TagAnswers : Type 0
TagAnswers =
    (table : List ℕ) (tag : Tag) (identity user : List ℕ) (b : Brought) (x : Left) (f : TagFault)
    → Called table tag identity user b x
    → x.stepped.outcome ≡ Err f
    → TagRefused tag identity user b x f

-- ---- the reader's side

-- `reader_judge::judge`: 20 to 24, and the data room as it was. Data and a challenge stand in what is accepted alone,
-- and the finding that is refused has none.
pub record JudgeRefused (found : Finding) (room after : List ℕ) (f : ReaderFault) : Type 0 where
  pub number : Among reader_numbers (reader.number_of f)
  pub silent : after ≡ room
  pub bytes : found.bytes ≡ []
  pub worth : found.worth ≡ NoData
  pub issued : found.issued ≡ false
  pub challenge : found.challenge ≡ replicate 10 0

abbrev pub JudgeAnswers : Type 0
JudgeAnswers =
    (keys : Keys) (message reply room : List ℕ) (r : Result Accepted ReaderFault) (after : List ℕ) (f : ReaderFault)
    → Judges (judgement_of keys message reply (length room)) room r after
    → r ≡ Err f
    → JudgeRefused (judgement_of keys message reply (length room)) room after f

-- The seven builders: 24, and the room as it was.
abbrev pub BuilderAnswers : Type 0
BuilderAnswers =
    (fit : Bool) (message room : List ℕ) (r : Result ℕ ReaderFault) (after : List ℕ) (f : ReaderFault)
    → Makes fit message room r after
    → r ≡ Err f
    → (reader.number_of f ≡ 24) × (after ≡ room)

-- ---- the sheet

-- `sheet::read`: 30 to 35, and no tag: the setup says nothing.
abbrev pub SheetAnswers : Type 0
SheetAnswers =
    (s : List ℕ) (f : SheetFault) (at : ℕ)
    → verdict_of (read_of key_limit s) ≡ Err (record { fault = f; at = at })
    → Among sheet_numbers (sheet.number_of f) × (terms_read (read_of key_limit s) ≡ empty_terms)
    × (keys_read (read_of key_limit s) ≡ 0)

-- `sheet::judge`: a record that is refused leaves what was gathered.
abbrev pub RecordAnswers : Type 0
RecordAnswers =
    (s : List ℕ) (k : Gathered) (f : SheetFault)
    → (judged_of key_limit s k).finding ≡ Err f
    → Among sheet_numbers (sheet.number_of f) × ((judged_of key_limit s k).gathered ≡ k)

-- ---- chaining and MAC, and the parts of messages

-- The four chainings and the MAC: 0 or 8, and with 8 the room as it was.
abbrev pub ChainAnswers : Type 0
ChainAnswers =
    (taken : Bool) (out before : List ℕ) (r : Result Unit ChainingFault) (after : List ℕ)
    → room.Into taken out before r after
    → (room.number_of r ≡ 0) ⊎ ((room.number_of r ≡ 8) × (after ≡ before))

-- What lays a message, a header or data into a room gives no number: where it says None, the room is as it was.
abbrev pub LayerAnswers : Type 0
LayerAnswers =
    (fit : Bool) (n : ℕ) (message before : List ℕ) (r : Option ℕ) (after : List ℕ)
    → Built fit n message before r after
    → r ≡ None
    → after ≡ before
