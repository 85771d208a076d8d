-- What a judgement comes to, and what the judge leaves behind.
use Rattle.std.specs.Prelude.{ℕ, ◌≡◌, Bool, true, false, List, [], length, replicate, Result, Ok, Err, Some, None}
use Rattle.ground.specs.Choice.{pick}
use Rattle.modes.specs.Room.{over}
use Rattle.frames.specs.declared.ProtMode.{ProtMode}
use Rattle.frames.specs.Modes.{has_mac}
use Rattle.reader.specs.declared.ReaderFault.{ReaderFault}
use Rattle.reader_judge.specs.declared.Worth.{Worth}
use Rattle.reader_judge.specs.declared.Worth.TheVariants.{NoData, Unproved, Proved}
use Rattle.reader_judge.specs.declared.Accepted.{Accepted}
use Rattle.reader.specs.Numbers.{number_of}

-- The verdict, the bytes of the data and what they are worth, and the challenge that the tag issued.
pub record Finding : Type 0 where
  pub verdict : Result Unit ReaderFault
  pub bytes : List ℕ
  pub worth : Worth
  pub issued : Bool
  pub challenge : List ℕ

-- No data, and no challenge.
abbrev pub silent : Result Unit ReaderFault → Finding
silent v = record { verdict = v; bytes = []; worth = NoData; issued = false; challenge = replicate 10 0 }

abbrev pub refused : ReaderFault → Finding
refused f = silent (Err f)

abbrev pub nothing_more : Finding
nothing_more = silent (Ok tt)

-- Table 3: only a MAC proves data. In Rev 0 it proves the blocks as they were sent: no constant of its own says the
-- ProtMode, and no header the address and the count.
unfoldable pub worth_of : ProtMode → Worth
worth_of mode = pick (has_mac mode) Proved Unproved

abbrev pub carries : Worth → List ℕ → Finding
carries w bytes = record { verdict = (Ok tt); bytes = bytes; worth = w; issued = false; challenge = replicate 10 0 }

abbrev pub issues : List ℕ → Finding
issues challenge = record { verdict = (Ok tt); bytes = []; worth = NoData; issued = true; challenge = challenge }

-- A finding as the judge says it: what it accepts, with the challenge where the tag issued one, or the refusal alone.
abbrev pub said_by : Result Unit ReaderFault → Finding → Result Accepted ReaderFault
said_by (Ok tt) f = Ok (record {
  «data» = length f.bytes;
  worth = f.worth;
  challenge = pick f.issued (Some f.challenge) None;
})
said_by (Err e) f = Err e

abbrev pub said_of : Finding → Result Accepted ReaderFault
said_of f = said_by f.verdict f

-- The scope paper's number of a verdict, or of what the judge says; 0 where nothing is refused.
abbrev pub verdict_number : {A : Type 0} → Result A ReaderFault → ℕ
verdict_number (Ok x) = 0
verdict_number (Err f) = number_of f

-- What the judge says, by name and by number, and what it leaves in the data room: the data over its first bytes.
pub record Judges (f : Finding) (room : List ℕ) (r : Result Accepted ReaderFault) (after : List ℕ) : Type 0 where
  pub says : r ≡ said_of f
  pub number : verdict_number r ≡ verdict_number f.verdict
  pub holds : after ≡ over f.bytes room
