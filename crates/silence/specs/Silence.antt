-- Demand 3: one bench carries several clients' keys, and a client's secrets are not shown by what is done in another's
-- name.
use Rattle.std.specs.Prelude.{◌≡◌, ◌↔◌, Bool, true, List, [], ◌∷◌, ℕ, ◌+◌, ◌*◌, length, get_or}
use Rattle.memory.specs.declared.Area.TheVariants.{Identity, User}
use Rattle.memory.specs.Areas.{word_bytes}
use Rattle.sheet.specs.declared.Key.{Key}
use Rattle.sheet.specs.declared.Terms.{Terms}
use Rattle.sheet.specs.Setups.{Setup, setup_of}
use Rattle.tag.specs.States.{powered_up, awake}
use Rattle.tag.specs.Answers.{Answer}
use Rattle.tag.specs.Runs.{Event, run}
use Rattle.tag.specs.Plays.{Doing, Left, Plays, events_of}
use Rattle.silence.specs.Names.{named_in, Open}

-- ---- set up alike

-- Two records alike but for their key bytes, and wholly alike where they are named.
pub record RecordAlike (named : ℕ → Bool) (k l : Key) : Type 0 where
  pub id : k.id ≡ l.id
  pub mac : k.mac ≡ l.mac
  pub mpi : k.mpi ≡ l.mpi
  pub enc : named k.id ≡ true → k.enc ≡ l.enc
  pub mackey : named k.id ≡ true → k.mackey ≡ l.mackey

-- So many records, each like its fellow.
unfoldable pub RecordsAlike : (ℕ → Bool) → List Key → List Key → Type 0
RecordsAlike named [] [] = Unit
RecordsAlike named [] (l ∷ ls) = ⊥
RecordsAlike named (k ∷ ks) [] = ⊥
RecordsAlike named (k ∷ ks) (l ∷ ls) = RecordAlike named k l × RecordsAlike named ks ls

-- Two setups alike: of the records in use only key bytes of such as are not named differ.
pub record SetupsAlike (named : ℕ → Bool) (s t : Setup) : Type 0 where
  pub features : s.features ≡ t.features
  pub sizes : s.sizes ≡ t.sizes
  pub records : RecordsAlike named s.keys t.keys
  pub profiles : s.profiles ≡ t.profiles
  pub locks : s.locks ≡ t.locks

-- The two bytes of a word of an area.
abbrev pub word_of : List ℕ → ℕ → ℕ × ℕ
word_of area w = (get_or area (w * word_bytes) 0, get_or area (w * word_bytes + 1) 0)

-- The memory of a tag: both areas.
pub record Memory : Type 0 where
  pub identity : List ℕ
  pub user : List ℕ

-- Two memories alike: as long, and each open word the same in both.
pub record MemoriesAlike (named : ℕ → Bool) (setup : Setup) (x y : Memory) : Type 0 where
  pub identity_length : length x.identity ≡ length y.identity
  pub user_length : length x.user ≡ length y.user
  pub identity : (w : ℕ) → Open named setup Identity w → word_of x.identity w ≡ word_of y.identity w
  pub user : (w : ℕ) → Open named setup User w → word_of x.user w ≡ word_of y.user w

-- ---- the same is seen

-- Of an area in two tags, before and now: a word in which they differed is in each as it was, and any other is the same
-- in both. So what changed in one changed in the other, and to the same value.
pub record SameChange (before before' now now' : List ℕ) : Type 0 where
  pub differed : (w : ℕ) → (word_of before w ≡ word_of before' w → ⊥) → (word_of now w ≡ word_of before w)
      × (word_of now' w ≡ word_of before' w)
  pub agreed : (w : ℕ) → word_of before w ≡ word_of before' w → word_of now w ≡ word_of now' w
  pub long : length now ≡ length before
  pub long' : length now' ≡ length before'

-- Two answers, of tags whose memories were x and y at the start: the same number or reply, the same state with all that
-- is held, the same change.
pub record SameAnswer (x y : Memory) (a b : Answer) : Type 0 where
  pub outcome : a.outcome ≡ b.outcome
  pub reply : a.reply ≡ b.reply
  pub session : a.tag.session ≡ b.tag.session
  pub identity : SameChange x.identity y.identity a.identity b.identity
  pub user : SameChange x.user y.user a.user b.user

-- At every step.
unfoldable pub SameAnswers : Memory → Memory → List Answer → List Answer → Type 0
SameAnswers x y [] [] = Unit
SameAnswers x y [] (b ∷ more) = ⊥
SameAnswers x y (a ∷ more) [] = ⊥
SameAnswers x y (a ∷ more) (b ∷ more') = SameAnswer x y a b × SameAnswers x y more more'

-- ---- the demand

-- What a tag answers from power-up on, to messages and further power-ups.
abbrev pub answers : Setup → Memory → List Event → List Answer
answers setup x es = run (powered_up setup) x.identity x.user es

-- Whatever reaches them: two tags that are alike but for what no message of it may touch cannot be told apart.
abbrev pub Silent : Type 0
Silent =
    (es : List Event) (s t : Setup) (x y : Memory)
    → SetupsAlike (named_in es) s t
    → MemoriesAlike (named_in es) s x y
    → SameAnswers x y (answers s x es) (answers t y es)

-- The same of the code, whose calls leave what the contracts of `step` and `power_up` say: of two tags by their terms
-- and key tables, `ls` and `rs` are what is left of the same calls, with the same bytes in each room.
pub record SameLeft (x y : Memory) (l r : Left) : Type 0 where
  pub outcome : l.stepped.outcome ≡ r.stepped.outcome
  pub session : l.stepped.tag.session ≡ r.stepped.tag.session
  pub room : l.room ≡ r.room
  pub identity : SameChange x.identity y.identity l.identity r.identity
  pub user : SameChange x.user y.user l.user r.user

unfoldable pub SameLefts : Memory → Memory → List Left → List Left → Type 0
SameLefts x y [] [] = Unit
SameLefts x y [] (r ∷ more) = ⊥
SameLefts x y (l ∷ more) [] = ⊥
SameLefts x y (l ∷ more) (r ∷ more') = SameLeft x y l r × SameLefts x y more more'

abbrev pub SilentCode : Type 0
SilentCode =
    (ds : List Doing) (p q : Terms) (k l : List ℕ) (x y : Memory) (ls rs : List Left)
    → SetupsAlike (named_in (events_of ds)) (setup_of p k) (setup_of q l)
    → MemoriesAlike (named_in (events_of ds)) (setup_of p k) x y
    → Plays k (awake p) x.identity x.user ds ls
    → Plays l (awake q) y.identity y.user ds rs
    → SameLefts x y ls rs

-- What the same change means from one moment to another: of an area that was s and t at the start, m and n at the one,
-- k and l at the other. A word is the same at both in one tag exactly if it is in the other; where it is not, it has
-- come to the same value.
abbrev pub ChangeAlike : Type 0
ChangeAlike =
    (s t m n k l : List ℕ) → SameChange s t m n → SameChange s t k l → (w : ℕ)
    → ((word_of m w ≡ word_of k w) ↔ (word_of n w ≡ word_of l w))
    × ((word_of m w ≡ word_of k w → ⊥) → word_of k w ≡ word_of l w)
