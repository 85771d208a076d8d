-- Number 24: what the judge asks of the data room and of the reader's own message.
use Rattle.std.specs.Prelude.{ℕ, Bool, false, List, leb}
use Rattle.ground.specs.Choice.{both, implies}
use Rattle.frames.specs.declared.Kind.{Kind}
use Rattle.frames.specs.declared.Kind.TheVariants.{Tam1, Tam2, Iam1, Iam2, Iam3, Mam1, Mam2, Unsupported}
use Rattle.frames.specs.declared.ProtMode.{ProtMode}
use Rattle.frames.specs.Lengths.{length_fits}
use Rattle.frames.specs.Modes.{has_mac, in_mode, prot_mode_of}
use Rattle.frames.specs.Messages.{tam1_of, tam2_of, iam1_of, iam2_of, iam3_of, mam1_of, mam2_of, rfu_fits}
use Rattle.reader.specs.declared.Keys.{Keys}

-- The bytes that a data room has at least: nine blocks.
abbrev pub data_room : ℕ
data_room = 144

-- Table 3: one of the four modes, and a key for the MAC where there is one.
unfoldable pub mode_served : Keys → ProtMode → Bool
mode_served keys mode = implies (has_mac mode) keys.mac

unfoldable pub mode_fits : Keys → ℕ → Bool
mode_fits keys protmode = in_mode (prot_mode_of protmode) (mode_served keys) false

-- RFU is zero, and the ProtMode is one that the reader can judge.
unfoldable pub fields_fit : Keys → Kind → List ℕ → Bool
fields_fit keys Tam1 m = rfu_fits (tam1_of m).rfu
fields_fit keys Tam2 m = both (rfu_fits (tam2_of m).rfu) (mode_fits keys (tam2_of m).protmode)
fields_fit keys Iam1 m = rfu_fits (iam1_of m).rfu
fields_fit keys Iam2 m = rfu_fits (iam2_of m).rfu
fields_fit keys Iam3 m = both (rfu_fits (iam3_of m).rfu) (mode_fits keys (iam3_of m).protmode)
fields_fit keys Mam1 m = rfu_fits (mam1_of m).rfu
fields_fit keys Mam2 m = rfu_fits (mam2_of m).rfu
fields_fit keys Unsupported m = false

-- The room is large enough, and the message is one of the table.
unfoldable pub own_fits : Keys → Kind → List ℕ → ℕ → Bool
own_fits keys kind m room = both (leb data_room room) (both (length_fits kind m) (fields_fit keys kind m))
