-- ProtMode: the four modes of Table 3, and what a field of four bits says.
use Rattle.std.specs.Prelude.{ℕ, Bool, true, false, eqb, Option, Some, None}
use Rattle.ground.specs.Choice.{pick}
use Rattle.frames.specs.declared.ProtMode.{ProtMode}
use Rattle.frames.specs.declared.ProtMode.TheVariants.{Plaintext, Cbc, Cmac, CbcCmac}

-- Table 3
unfoldable pub prot_mode_of : ℕ → Option ProtMode
prot_mode_of protmode =
    pick (eqb protmode 0) (Some Plaintext)
    (pick (eqb protmode 1) (Some Cbc)
    (pick (eqb protmode 2) (Some Cmac)
    (pick (eqb protmode 3) (Some CbcCmac) None)))

-- what follows from a mode; and what where the field says none
abbrev pub in_mode : {A : Type 0} → Option ProtMode → (ProtMode → A) → A → A
in_mode (Some mode) of none = of mode
in_mode None of none = none

-- Table 3: CBC encrypts
unfoldable pub encrypts : ProtMode → Bool
encrypts Plaintext = false
encrypts Cbc = true
encrypts Cmac = false
encrypts CbcCmac = true

-- Table 3: CMAC authenticates
unfoldable pub has_mac : ProtMode → Bool
has_mac Plaintext = false
has_mac Cbc = false
has_mac Cmac = true
has_mac CbcCmac = true
