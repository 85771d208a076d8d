-- The judge of a reply to the reader's own message: 24, and then by kind 20, 21, 22 and 23 (the scope paper, "Numbers
-- the reader's side gives"). `judgement_of`, at the end, is the whole of it.
-- 9.4.7.1 judges the MAC before the block is opened; the scope paper's order is kept, and what is accepted is the same.
use Rattle.std.specs.Prelude.{ℕ, List, [], ◌∷◌, eqb, length, take, drop}
use Rattle.ground.specs.Bytes.{two_bytes}
use Rattle.ground.specs.Choice.{pick}
use Rattle.ground.specs.Checks.{◌else◌, judged_to}
use Rattle.frames.specs.declared.Kind.{Kind}
use Rattle.frames.specs.declared.Kind.TheVariants.{Tam1, Tam2, Iam1, Iam2, Iam3, Mam1, Mam2, Unsupported}
use Rattle.frames.specs.declared.Tam1.{Tam1 as Tam1Fields}
use Rattle.frames.specs.declared.Tam2.{Tam2 as Tam2Fields}
use Rattle.frames.specs.declared.Mam1.{Mam1 as Mam1Fields}
use Rattle.frames.specs.Constants.{c_tam1, c_mam1, tam2_constant}
use Rattle.frames.specs.Kinds.{kind_of}
use Rattle.frames.specs.Lengths.{tam1_reply_length, tam2_reply_length, tam2_mac_at, iam1_reply_length}
use Rattle.frames.specs.Lengths.{mam1_reply_length, empty_reply_length}
use Rattle.frames.specs.Messages.{tam1_of, tam2_of, mam1_of}
use Rattle.frames.specs.declared.ProtMode.{ProtMode}
use Rattle.frames.specs.Modes.{in_mode, prot_mode_of}
use Rattle.payload.specs.Protected.{mac_fits}
use Rattle.payload.specs.Data.{header_fits, filler_fits, words_in}
use Rattle.reader.specs.declared.Keys.{Keys}
use Rattle.reader.specs.declared.ReaderFault.TheVariants.{ReplyLength, ChallengeWrong, MacWrong, HeaderWrong}
use Rattle.reader.specs.declared.ReaderFault.TheVariants.{OwnMessage}
use Rattle.reader_judge.specs.Findings.{Finding, refused, nothing_more, carries, worth_of, issues}
use Rattle.reader_judge.specs.Opened.{opened_block, block_fits, challenge_in, opened_data}
use Rattle.reader.specs.Own.{own_fits}

-- 9.2, 9.4.7.3: header, data and filler of TAM2, in the clear. The scope paper asks for zeros as filler in both Revs.
unfoldable pub data_finding : ProtMode → Tam2Fields → List ℕ → Finding
data_finding mode f p =
    judged_to refused
    ((header_fits f.rev f.custom p else HeaderWrong)
    ∷ (filler_fits f.rev f.custom p else HeaderWrong)
    ∷ [])
    (carries (worth_of mode) (words_in f.rev f.custom p))

-- 9.5.3, 9.5.4: the reply to IAM1 is the challenge.
unfoldable pub iam1_finding : List ℕ → Finding
iam1_finding reply = judged_to refused ((eqb (length reply) iam1_reply_length else ReplyLength) ∷ []) (issues reply)

-- 9.5.6, 9.5.9, 9.6.6: the reply to IAM2, IAM3 and MAM2 is empty.
unfoldable pub empty_finding : List ℕ → Finding
empty_finding reply = judged_to refused ((eqb (length reply) empty_reply_length else ReplyLength) ∷ []) nothing_more

-- 9.4.4
unfoldable pub tam1_finding : Keys → Tam1Fields → List ℕ → Finding
tam1_finding keys f reply =
    judged_to refused
    ((eqb (length reply) tam1_reply_length else ReplyLength)
    ∷ (block_fits (two_bytes c_tam1) f.ichallenge (opened_block keys reply) else ChallengeWrong)
    ∷ [])
    nothing_more

-- 9.4.7, in the mode that the message asked for
unfoldable pub tam2_in_mode : Keys → Tam2Fields → List ℕ → ProtMode → Finding
tam2_in_mode keys f reply mode =
    let c = f.custom in
    let at = tam2_mac_at c.blocksize f.rev c.blockcount in
    let long = tam2_reply_length c.blocksize f.rev c.blockcount mode in
    let constant = two_bytes (tam2_constant f.rev mode) in
    judged_to refused
    ((eqb (length reply) long else ReplyLength)
    ∷ (block_fits constant f.ichallenge (opened_block keys reply) else ChallengeWrong)
    ∷ (mac_fits keys.mackey mode (take at reply) (drop at reply) else MacWrong)
    ∷ [])
    (data_finding mode f (opened_data keys mode f reply))

-- A message that asks for no mode is none of the table.
unfoldable pub tam2_finding : Keys → Tam2Fields → List ℕ → Finding
tam2_finding keys f reply = in_mode (prot_mode_of f.protmode) (tam2_in_mode keys f reply) (refused OwnMessage)

-- 9.6.3, 9.6.4
unfoldable pub mam1_finding : Keys → Mam1Fields → List ℕ → Finding
mam1_finding keys f reply =
    judged_to refused
    ((eqb (length reply) mam1_reply_length else ReplyLength)
    ∷ (block_fits (two_bytes c_mam1) f.ichallenge (opened_block keys reply) else ChallengeWrong)
    ∷ [])
    (issues (challenge_in (opened_block keys reply) reply))

module _ (keys : Keys) (m reply : List ℕ) where
  unfoldable pub by_kind : Kind → Finding
  by_kind Tam1 = tam1_finding keys (tam1_of m) reply
  by_kind Tam2 = tam2_finding keys (tam2_of m) reply
  by_kind Iam1 = iam1_finding reply
  by_kind Iam2 = empty_finding reply
  by_kind Iam3 = empty_finding reply
  by_kind Mam1 = mam1_finding keys (mam1_of m) reply
  by_kind Mam2 = empty_finding reply
  by_kind Unsupported = refused OwnMessage

-- A message of a kind, with a data room of so many bytes.
unfoldable pub of_kind : Keys → List ℕ → List ℕ → ℕ → Kind → Finding
of_kind keys m reply room kind = pick (own_fits keys kind m room) (by_kind keys m reply kind) (refused OwnMessage)

-- The judgement of a reply.
unfoldable pub judgement_of : Keys → List ℕ → List ℕ → ℕ → Finding
judgement_of keys [] reply room = refused OwnMessage
judgement_of keys (first ∷ rest) reply room = of_kind keys (first ∷ rest) reply room (kind_of first)
