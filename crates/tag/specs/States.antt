-- A tag's states: clause 8, Annex A, and the scope paper, "States".
use Rattle.std.specs.Prelude.{ℕ, Bool, true, false, List, [], ◌∷◌, Result, Ok, Err}
use Rattle.ground.specs.Choice.{pick}
use Rattle.sheet.specs.declared.Features.{Features}
use Rattle.sheet.specs.declared.Key.{Key}
use Rattle.sheet.specs.declared.Terms.{Terms}
use Rattle.sheet.specs.Setups.{Setup, setup_of, terms_of}
use Rattle.frames.specs.declared.Kind.{Kind}
use Rattle.frames.specs.declared.Kind.TheVariants.{Tam1, Tam2, Iam1, Iam2, Iam3, Mam1, Mam2, Unsupported}
use Rattle.offer.specs.declared.TagFault.{TagFault}
use Rattle.offer.specs.declared.TagFault.TheVariants.{OtherError, NotSupported, MemoryOverrun, MemoryWriteError}
use Rattle.offer.specs.declared.TagFault.TheVariants.{OutOfTurn}
use Rattle.offer.specs.declared.TagFault.TheVariants.{ProofWrong, BenchFault}
use Rattle.frames.specs.Kinds.{kind_of}
use Rattle.offer.specs.Records.{offered}
use Rattle.keytable.specs.Named.{has_key}
use Rattle.entry.specs.declared.State.{State}
use Rattle.entry.specs.declared.State.TheVariants.{Initial, IamInit, MamInit, IaOk}
use Rattle.entry.specs.declared.Session.{Session}
use Rattle.entry.specs.Sessions.{cleared}
use Rattle.tag.specs.declared.Tag.{Tag}

-- A tag with its keys: what its sheet says, and what it holds. In the code the keys stay in the bytes that hold them.
pub record KeyedTag : Type 0 where
  pub setup : Setup
  pub session : Session

abbrev pub holding : Setup → Session → KeyedTag
holding setup held = record { setup = setup; session = held }

-- A tag of the code with the key table that is lent to it, and a tag without its keys, as the code has it.
abbrev pub keyed : Tag → List ℕ → KeyedTag
keyed tag keys = holding (setup_of tag.terms keys) tag.session

abbrev pub keyless : KeyedTag → Tag
keyless tag = record { terms = terms_of tag.setup; session = tag.session }

-- Power-up and reset; the same of the tag without its keys.
unfoldable pub powered_up : Setup → KeyedTag
powered_up setup = holding setup cleared

abbrev pub awake : Terms → Tag
awake terms = record { terms = terms; session = cleared }

-- The states in which a new challenge may be asked for (9.5.2, 9.6.2), and the state that follows each challenge.
unfoldable pub at_rest : State → Bool
at_rest Initial = true
at_rest IamInit = false
at_rest MamInit = false
at_rest IaOk = true

abbrev pub after_iam1 : State → Bool
after_iam1 Initial = false
after_iam1 IamInit = true
after_iam1 MamInit = false
after_iam1 IaOk = false

abbrev pub after_mam1 : State → Bool
after_mam1 Initial = false
after_mam1 IamInit = false
after_mam1 MamInit = true
after_mam1 IaOk = false

-- Table A.1: the states in which a message is taken. TAM in any.
unfoldable pub in_turn : State → Kind → Bool
in_turn s Tam1 = true
in_turn s Tam2 = true
in_turn s Iam1 = at_rest s
in_turn s Iam2 = after_iam1 s
in_turn s Iam3 = after_iam1 s
in_turn s Mam1 = at_rest s
in_turn s Mam2 = after_mam1 s
in_turn s Unsupported = false

-- The kind of a message that is there and offered, in its turn; or why it is refused before its kind counts.
unfoldable pub kind_taken : Features → State → List ℕ → Result Kind TagFault
kind_taken features state [] = Err OtherError
kind_taken features state (first ∷ rest) =
    pick (offered features (kind_of first))
    (pick (in_turn state (kind_of first)) (Ok (kind_of first)) (Err OutOfTurn)) (Err NotSupported)

-- While a challenge waits for its answer, a record has the KeyID that is held.
unfoldable pub key_fits : List Key → State → ℕ → Bool
key_fits keys Initial keyid = true
key_fits keys IamInit keyid = has_key keyid keys
key_fits keys MamInit keyid = has_key keyid keys
key_fits keys IaOk keyid = true

-- What the tag holds after each refusal.
abbrev pub session_after : TagFault → Session → Session
session_after OtherError held = cleared
session_after NotSupported held = cleared
session_after MemoryOverrun held = cleared
session_after MemoryWriteError held = cleared
session_after OutOfTurn held = cleared
session_after ProofWrong held = cleared
session_after BenchFault held = held

-- Table A.1, row by row: the next state of each message that a state takes. Any other pair is an error, and leads to
-- Initial.
abbrev pub table_a1 : State → Kind → List State
table_a1 s Tam1 = Initial ∷ []
table_a1 s Tam2 = Initial ∷ []
table_a1 Initial Iam1 = IamInit ∷ []
table_a1 IaOk Iam1 = IamInit ∷ []
table_a1 IamInit Iam2 = IaOk ∷ []
table_a1 IamInit Iam3 = IaOk ∷ []
table_a1 Initial Mam1 = MamInit ∷ []
table_a1 IaOk Mam1 = MamInit ∷ []
table_a1 MamInit Mam2 = IaOk ∷ []
table_a1 Initial Iam2 = []
table_a1 Initial Iam3 = []
table_a1 Initial Mam2 = []
table_a1 IamInit Iam1 = []
table_a1 IamInit Mam1 = []
table_a1 IamInit Mam2 = []
table_a1 MamInit Iam1 = []
table_a1 MamInit Iam2 = []
table_a1 MamInit Iam3 = []
table_a1 MamInit Mam1 = []
table_a1 IaOk Iam2 = []
table_a1 IaOk Iam3 = []
table_a1 IaOk Mam2 = []
table_a1 s Unsupported = []
