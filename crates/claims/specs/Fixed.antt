-- A reply that is accepted fixes its content: the own message, the keys, what the judge handed over and the tag's
-- random bytes make every byte of it.
use Rattle.std.specs.Prelude.{◌≡◌, Bool, true, false, List, [], ℕ, take, drop, Ok}
use Rattle.ground.specs.Bytes.{Bytes, byte_at}
use Rattle.sheet.specs.declared.Key.{Key}
use Rattle.frames.specs.declared.Kind.{Kind}
use Rattle.frames.specs.declared.Kind.TheVariants.{Tam1, Tam2, Iam1, Iam2, Iam3, Mam1, Mam2, Unsupported}
use Rattle.frames.specs.Kinds.{kind_of}
use Rattle.frames.specs.Messages.{tam1_of, tam2_of, mam1_of}
use Rattle.tam.specs.Replies.{tam1_reply, tam2_reply}
use Rattle.entry.specs.Replies.{mam1_reply}
use Rattle.reader.specs.declared.Keys.{Keys}
use Rattle.reader_judge.specs.Findings.{Finding}
use Rattle.reader_judge.specs.Judged.{judgement_of}
use Rattle.reader_judge.specs.Opened.{opened_block}
use Rattle.claims.specs.Recovery.{Shares}

-- 9.4.3, 9.4.6.1: the tag's random bytes, TRnd, in the block that a reply starts with.
abbrev pub trnd_in : Keys → List ℕ → List ℕ
trnd_in keys reply = take 4 (drop 2 (opened_block keys reply))

-- The reply that a tag with this record sends to a message of a kind, with these random bytes, and the data or the
-- challenge that were found.
unfoldable pub remade : Key → List ℕ → List ℕ → Finding → Kind → List ℕ
remade key m trnd found Tam1 = tam1_reply key (tam1_of m) trnd
remade key m trnd found Tam2 = tam2_reply key (tam2_of m) found.bytes trnd
remade key m trnd found Iam1 = found.challenge
remade key m trnd found Iam2 = []
remade key m trnd found Iam3 = []
remade key m trnd found Mam1 = mam1_reply key (mam1_of m) found.challenge
remade key m trnd found Mam2 = []
remade key m trnd found Unsupported = []

-- Whatever bytes came: where the judge accepts them, they are that reply.
abbrev pub Fixed : Type 0
Fixed =
    (keys : Keys) (key : Key) (m reply : List ℕ) (room : ℕ)
    → Shares keys key
    → Bytes keys.enc
    → Bytes reply
    → (judgement_of keys m reply room).verdict ≡ Ok tt
    → reply ≡ remade key m (trnd_in keys reply) (judgement_of keys m reply room) (kind_of (byte_at m 0))

-- The kinds whose replies carry random bytes that the judge does not hand out.
unfoldable pub has_trnd : Kind → Bool
has_trnd Tam1 = true
has_trnd Tam2 = true
has_trnd Iam1 = false
has_trnd Iam2 = false
has_trnd Iam3 = false
has_trnd Mam1 = false
has_trnd Mam2 = false
has_trnd Unsupported = false

-- So two replies that are accepted for one message with the same finding are the same, but in TAM1 and TAM2 for the
-- tag's random bytes and what follows from them.
abbrev pub FixedTwice : Type 0
FixedTwice =
    (keys : Keys) (key : Key) (m reply other : List ℕ) (room : ℕ)
    → Shares keys key
    → Bytes keys.enc
    → Bytes reply
    → Bytes other
    → (judgement_of keys m reply room).verdict ≡ Ok tt
    → judgement_of keys m reply room ≡ judgement_of keys m other room
    → (has_trnd (kind_of (byte_at m 0)) ≡ true → trnd_in keys reply ≡ trnd_in keys other)
    → reply ≡ other
