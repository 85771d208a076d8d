-- The reader's side by plain numbers: keys and fields as a caller gives them, and what a builder and the judge leave.
use Rattle.std.specs.Prelude.{◌≡◌, Bool, List, ℕ, eqb, ltb, length, replicate, Result, Ok, Err}
use Rattle.reader.specs.declared.ReaderFault.{ReaderFault}
use Rattle.ground.specs.Bytes.{bit_of}
use Rattle.ground.specs.Choice.{pick, both, either}
use Rattle.modes.specs.Room.{over}
use Rattle.frames.specs.declared.Custom.{Custom}
use Rattle.frames.specs.Fields.{size_of}
use Rattle.reader.specs.declared.ReaderFault.TheVariants.{OwnMessage}
use Rattle.reader.specs.declared.Keys.{Keys}
use Rattle.reader_judge.specs.declared.Worth.{Worth}
use Rattle.reader_judge.specs.declared.Worth.TheVariants.{NoData, Unproved, Proved}
use Rattle.reader_judge.specs.Findings.{Finding, refused, verdict_number}
use Rattle.reader_judge.specs.Judged.{judgement_of}
use Rattle.reader_build.specs.Makes.{taken}

-- ---- what is given

-- A MAC key of sixteen bytes, or none; any other number of bytes is number 24.
abbrev pub mac_given : List ℕ → Bool
mac_given mac = either (eqb (length mac) 0) (eqb (length mac) 16)

unfoldable pub keys_of : List ℕ → List ℕ → Keys
keys_of enc mac = record {
  enc = enc;
  mac = eqb (length mac) 16;
  mackey =
      pick (eqb (length mac) 16) mac (replicate 16 0);
}

-- BlockSize and Rev have one bit.
abbrev pub size_given : List ℕ → ℕ → Bool
size_given mac blocksize = both (ltb blocksize 2) (mac_given mac)

abbrev pub bits_given : List ℕ → ℕ → ℕ → Bool
bits_given mac blocksize rev = both (ltb rev 2) (size_given mac blocksize)

abbrev pub custom_of : ℕ → ℕ → ℕ → ℕ → Custom
custom_of blocksize profile offset blockcount =
    record { blocksize = size_of blocksize; profile = profile; offset = record { 0 = offset }; blockcount = blockcount }

-- ---- what a builder leaves

abbrev pub made_length : Result ℕ ReaderFault → ℕ
made_length (Ok n) = n
made_length (Err f) = 0

-- Taken: 0, the message over the room's first bytes, and its length. Else 24 and length 0, and no byte of the room
-- changes.
pub record Builds (fit : Bool) (message room : List ℕ) (r told : ℕ) (after : List ℕ) : Type 0 where
  pub number : r ≡ pick (taken fit room) 0 24
  pub long : told ≡ pick (taken fit room) (length message) 0
  pub holds : after ≡ pick (taken fit room) (over message room) room

-- ---- what the judge leaves

abbrev pub worth_number : Worth → ℕ
worth_number NoData = 0
worth_number Unproved = 1
worth_number Proved = 2

abbrev pub finding_of : List ℕ → List ℕ → List ℕ → List ℕ → ℕ → Finding
finding_of enc mac message reply room = pick (mac_given mac) (judgement_of (keys_of enc mac) message reply room)
    (refused OwnMessage)

-- Number; length and worth of the data; whether a challenge was issued, and the challenge; and the data over the room's
-- first bytes.
pub record Finds (f : Finding) (room : List ℕ) (r told worth issued : ℕ) (challenge after : List ℕ) : Type 0 where
  pub number : r ≡ verdict_number f.verdict
  pub long : told ≡ length f.bytes
  pub value : worth ≡ worth_number f.worth
  pub flag : issued ≡ bit_of f.issued
  pub came : challenge ≡ f.challenge
  pub holds : after ≡ over f.bytes room
