-- A run of calls over a kept tag, messages and power-ups: each is given the image and the areas that the last one left,
-- and leaves what its contract says.
use Rattle.std.specs.Prelude.{◌≡◌, List, [], ℕ}
use Rattle.tag.specs.Answers.{Answer}
use Rattle.tag.specs.Plays.{Brought, Doing, Step, Wake, LeftWith, OneByOne}
use Rattle.tag.specs.Reactions.{lent}
use Rattle.offer.specs.Outcomes.{number_given, reply_length}
use Rattle.image.specs.Image.{tag_image}
use Rattle.capi.specs.Kept.{PoweredUp, purpose_given, answer_in, Answered}

-- What a call tells: its number, the reply's length and the Purpose; and the image that it leaves.
pub record Told : Type 0 where
  pub number : ℕ
  pub long : ℕ
  pub purpose : ℕ
  pub image : List ℕ

-- One call of `roualint_message`, by its contract.
abbrev pub Sends : List ℕ → List ℕ → List ℕ → Brought → LeftWith Told → Type 0
Sends image identity user b x =
    Answered image (answer_in image (lent b.message b.draws b.room identity user)) b.room
    x.stepped.number x.stepped.long x.stepped.purpose x.stepped.image x.room x.identity x.user

-- One call of `roualint_power_up`, by its contract. It has no room, is lent no area, and tells nothing but its number.
pub record Wakes (image i u : List ℕ) (x : LeftWith Told) : Type 0 where
  pub wakes : PoweredUp image x.stepped.number x.stepped.image
  pub long : x.stepped.long ≡ 0
  pub purpose : x.stepped.purpose ≡ 255
  pub room : x.room ≡ []
  pub identity : x.identity ≡ i
  pub user : x.user ≡ u

abbrev pub Calls : List ℕ → List ℕ → List ℕ → Doing → LeftWith Told → Type 0
Calls image identity user (Step b) x = Sends image identity user b x
Calls image identity user Wake x = Wakes image identity user x

abbrev pub CallsAll : List ℕ → List ℕ → List ℕ → List Doing → List (LeftWith Told) → Type 0
CallsAll = OneByOne Calls (λ (t : Told). t.image)

-- What the tag's own answer comes to in a call.
abbrev pub told_of : Answer → Told
told_of a = record {
  number = number_given a.outcome;
  long = reply_length a.outcome;
  purpose = purpose_given a.outcome;
  image = tag_image a.tag;
}
