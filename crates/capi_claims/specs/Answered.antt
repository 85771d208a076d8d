-- Demand 1 of the functions for programs in C: each that refuses anything answers 0, or one number of its list; and
-- then nothing is sent, no byte of a room or an area is written, no data, challenge or Purpose is told, and the tag's
-- bytes are as the list says.
use Rattle.std.specs.Prelude.{◌≡◌, ◌⊎◌, Bool, List, [], ◌∷◌, ℕ, ◌≤◌, ◌<◌, eqb, length, replicate}
use Rattle.ground.specs.Choice.{pick}
use Rattle.entry.specs.Sessions.{cleared}
use Rattle.tag.specs.Reactions.{lent}
use Rattle.image.specs.Image.{kept}
use Rattle.capi.specs.Chain.{Chains}
use Rattle.capi.specs.Kept.{SetUp, PoweredUp, AreasOf, state_said, answer_in, Answered}
use Rattle.capi.specs.Reader.{finding_of, Builds, Finds}
use Rattle.claims.specs.Answered.{Among, tag_numbers, reader_numbers, sheet_numbers}

-- 0, or a number of the list, with what holds then.
abbrev pub Answers : List ℕ → ℕ → Type 0 → Type 0
Answers numbers r Then = (r ≡ 0) ⊎ (Among numbers r × Then)

-- ---- a kept tag

-- A sheet that is refused leaves the tag's bytes.
abbrev pub SheetAnswers : Type 0
SheetAnswers =
    (sheet image : List ℕ) (r at : ℕ) (after : List ℕ)
    → SetUp sheet image r at after
    → Answers sheet_numbers r (after ≡ image)

-- So does a power-up of bytes that are no tag's.
abbrev pub PowerUpAnswers : Type 0
PowerUpAnswers =
    (image : List ℕ) (r : ℕ) (after : List ℕ)
    → PoweredUp image r after
    → Answers (7 ∷ []) r (after ≡ image)

-- They want no areas.
abbrev pub AreasAnswers : Type 0
AreasAnswers =
    (image : List ℕ) (r identity user : ℕ)
    → AreasOf image r identity user
    → Answers (7 ∷ []) r ((identity ≡ 0) × (user ≡ 0))

-- A message that is refused: no reply and no Purpose; room and areas with their bytes; and the tag's bytes as they were
-- (7), or with nothing held in Initial and the rest as it was (1 to 6).
pub record Refuses (image room identity user : List ℕ) (r told purpose : ℕ) (after reply i u : List ℕ) : Type 0 where
  pub long : told ≡ 0
  pub given : purpose ≡ 255
  pub sent : reply ≡ room
  pub identity_kept : i ≡ identity
  pub user_kept : u ≡ user
  pub holds : after ≡ pick (eqb r 7) image (kept cleared image)

-- The tag's bytes hold at least a session, which 793 do.
abbrev pub MessageAnswers : Type 0
MessageAnswers =
    (image message draws room identity user : List ℕ) (r told purpose : ℕ) (after reply i u : List ℕ)
    → 16 ≤ length image
    → Answered image (answer_in image (lent message draws room identity user)) room r told purpose after reply i u
    → Answers tag_numbers r (Refuses image room identity user r told purpose after reply i u)

-- The state is that of the first byte; where that is over 3 there is none, which 255 says. It is no refusal: whether
-- bytes are a tag's, the other functions tell by 7.
abbrev pub StateAnswers : Type 0
StateAnswers = (byte r : ℕ) → r ≡ state_said byte → ((byte < 4) × (r ≡ byte)) ⊎ ((4 ≤ byte) × (r ≡ 255))

-- ---- the reader's side

abbrev pub BuilderAnswers : Type 0
BuilderAnswers =
    (fit : Bool) (message room : List ℕ) (r told : ℕ) (after : List ℕ)
    → Builds fit message room r told after
    → Answers (24 ∷ []) r ((told ≡ 0) × (after ≡ room))

-- No data, no challenge, and the room as it was.
pub record Rejects (room : List ℕ) (told worth issued : ℕ) (challenge after : List ℕ) : Type 0 where
  pub long : told ≡ 0
  pub value : worth ≡ 0
  pub flag : issued ≡ 0
  pub came : challenge ≡ replicate 10 0
  pub holds : after ≡ room

abbrev pub JudgeAnswers : Type 0
JudgeAnswers =
    (enc mac message reply room : List ℕ) (r told worth issued : ℕ) (challenge after : List ℕ)
    → Finds (finding_of enc mac message reply (length room)) room r told worth issued challenge after
    → Answers reader_numbers r (Rejects room told worth issued challenge after)

-- ---- chaining and the MAC

abbrev pub ChainAnswers : Type 0
ChainAnswers =
    (taken : Bool) (out room : List ℕ) (r : ℕ) (after : List ℕ)
    → Chains taken out room r after
    → Answers (8 ∷ []) r (after ≡ room)
