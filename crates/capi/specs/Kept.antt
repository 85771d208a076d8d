-- What the functions over a kept tag leave: an image that is no tag's has number 7, and nothing is written.
use Rattle.std.specs.Prelude.{◌≡◌, List, ℕ, ◌*◌, ltb, Ok, Err}
use Rattle.offer.specs.Outcomes.{Outcome}
use Rattle.offer.specs.declared.Answer.TheVariants.{Replied, Entered}
use Rattle.ground.specs.Choice.{pick}
use Rattle.memory.specs.Areas.{word_bytes}
use Rattle.modes.specs.Room.{over}
use Rattle.sheet.specs.Limits.{key_limit}
use Rattle.sheet.specs.Sheet.{read_of, read_number, read_place, verdict_of}
use Rattle.offer.specs.declared.TagFault.TheVariants.{BenchFault}
use Rattle.offer.specs.Outcomes.{number_given, reply_length}
use Rattle.entry.specs.Sessions.{cleared}
use Rattle.tag.specs.Answers.{Answer, Call, refused, answer_with, answer_of}
use Rattle.image.specs.Image.{kept, terms_in, keyed_in, is_tag}
use Rattle.image.specs.Kept.{accepts, sheet_image}

-- A sheet that is accepted becomes a tag at its power-up; one that is refused changes nothing.
pub record SetUp (sheet image : List ℕ) (r at : ℕ) (after : List ℕ) : Type 0 where
  pub number : r ≡ read_number key_limit sheet
  pub place : at ≡ read_place key_limit sheet
  pub holds : after ≡ pick (accepts (verdict_of (read_of key_limit sheet))) (sheet_image cleared sheet) image

-- 7 for an image that is no tag's.
abbrev pub if_tag : List ℕ → ℕ
if_tag image = pick (is_tag image) 0 7

pub record PoweredUp (image : List ℕ) (r : ℕ) (after : List ℕ) : Type 0 where
  pub number : r ≡ if_tag image
  pub holds : after ≡ pick (is_tag image) (kept cleared image) image

-- The state's number, of the image's first byte; 255 where it is over 3.
abbrev pub state_said : ℕ → ℕ
state_said n = pick (ltb n 4) n 255

-- The areas' sizes in bytes.
pub record AreasOf (image : List ℕ) (r identity user : ℕ) : Type 0 where
  pub number : r ≡ if_tag image
  pub first : identity ≡ pick (is_tag image) ((terms_in image).sizes.identity * word_bytes) 0
  pub second : user ≡ pick (is_tag image) ((terms_in image).sizes.user * word_bytes) 0

-- The Purpose of a reader that is let in; 255 where none is.
abbrev pub purpose_given : Outcome → ℕ
purpose_given (Ok (Replied n)) = 255
purpose_given (Ok (Entered purpose)) = purpose
purpose_given (Err f) = 255

-- The tag's answer to a message.
abbrev pub answer_in : List ℕ → Call → Answer
answer_in image c =
    let tag = keyed_in image in
    pick (is_tag image) (answer_of c tag) (answer_with tag.setup (refused c BenchFault tag.session))

-- What is left of it: number, length of the reply and Purpose; the image with the next session; the reply over the
-- room's first bytes; and both areas.
pub record Answered (image : List ℕ) (a : Answer) (room : List ℕ) (r told purpose : ℕ) (after reply i u : List ℕ)
    : Type 0 where
  pub number : r ≡ number_given a.outcome
  pub long : told ≡ reply_length a.outcome
  pub given : purpose ≡ purpose_given a.outcome
  pub holds : after ≡ pick (is_tag image) (kept a.tag.session image) image
  pub sent : reply ≡ over a.reply room
  pub identity : i ≡ a.identity
  pub user : u ≡ a.user
