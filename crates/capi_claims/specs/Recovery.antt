-- Demand 2, recovery, of the functions for programs in C: what `roualint_message` left in the room, as far as it told,
-- given to `roualint_judge` with the keys of the record that the tag uses.
use Rattle.std.specs.Prelude.{◌≡◌, true, List, ℕ, ◌≤◌, length, take}
use Rattle.ground.specs.Bytes.{byte_at}
use Rattle.frames.specs.Kinds.{kind_of}
use Rattle.tag.specs.Answers.{answer_of}
use Rattle.tag.specs.Plays.{Brought, LeftWith}
use Rattle.tag.specs.Reactions.{lent}
use Rattle.tag.specs.States.{KeyedTag}
use Rattle.reader.specs.Own.{data_room}
use Rattle.image.specs.Image.{keyed_in, is_tag}
use Rattle.capi.specs.Reader.{mac_given, keys_of, finding_of, Finds}
use Rattle.capi.specs.Run.{Told, Sends}
use Rattle.claims.specs.Recovery.{key_used, Shares, Fit, due}

-- One message, taken, and the judge's call on what it left: what is found is what is due.
abbrev pub Recovers : List ℕ → KeyedTag → Type 0
Recovers image tag =
    (identity user : List ℕ) (b : Brought) (z : LeftWith Told) (enc mac room : List ℕ) (r told worth issued : ℕ)
    (challenge after : List ℕ)
    → Fit (lent b.message b.draws b.room identity user) tag (keys_of enc mac)
    → mac_given mac ≡ true
    → Shares (keys_of enc mac) (key_used tag b.message)
    → data_room ≤ length room
    → Sends image identity user b z
    → z.stepped.number ≡ 0
    → Finds (finding_of enc mac b.message (take z.stepped.long z.room) (length room)) room r told worth issued
    challenge after
    → (let c = lent b.message b.draws b.room identity user in
    Finds (due c tag (answer_of c tag) (kind_of (byte_at b.message 0))) room r told worth issued challenge after)

-- Of any bytes that are a tag's: the tag is the one that they say.
abbrev pub RecoveryCalls : Type 0
RecoveryCalls = (image : List ℕ) → is_tag image ≡ true → Recovers image (keyed_in image)
