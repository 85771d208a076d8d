-- A TAM2 reply: its parts as the code takes them, and its data in the clear.
use Rattle.std.specs.Prelude.{Result, Some, None}
use Rattle.std.specs.Result.{IsOk}
use Rattle.modes.specs.declared.ChainingFault.{ChainingFault}
use mathlib.Core.Path.{◌≡◌, refl, sym, ap, ap₂, ◌∙◌}
use mathlib.Core.Bool.{Bool, true, false}
use mathlib.Core.List.{List, ◌++◌}
use Prim.Native.Nat.{ℕ, ◌+◌, ◌*◌, ◌-◌, ◌/◌, ◌%◌, ◌≤◌}
use native.Mathlib.Nat.{min-le_left}
use native.Mathlib.Omega.{arith}
use borrow.Author.Tests.{lt-ltb}
use lib.ListN.{length, get_or, take, drop, length-drop, length-take}
use lib.Seq.{length-take-le}
use Rattle.ground.specs.Bytes.{Bytes}
use Rattle.ground.specs.Choice.{pick, both}
use Rattle.field.specs.Block.{first_block}
use Rattle.field.proofs.Block.{first_block_is}
use Rattle.memory.specs.declared.BlockSize.{BlockSize}
use Rattle.aes_inverse.specs.AesDec.{aes_dec}
use Rattle.modes.specs.Blocks.{whole_blocks}
use Rattle.modes.specs.Room.{Into, chains, over}
use Rattle.modes.proofs.Rooms.{enough, copied}
use Rattle.modes.proofs.Whole.{whole_count}
use Rattle.modes_inverse.specs.CbcInv.{cbc_dec_aes_inv}
use Rattle.frames.specs.declared.Custom.{Custom}
use Rattle.frames.specs.declared.Kind.{Kind}
use Rattle.frames.specs.declared.Tam2.{Tam2}
use Rattle.frames.specs.Blocks.{header_part, data_length, blocks_length}
use Rattle.frames.specs.Fields.{custom_fits, select_custom}
use Rattle.frames.specs.Lengths.{tam2_mac_at, tam2_reply_length}
use Rattle.frames.specs.Messages.{tam2_of}
use Rattle.payload.specs.Data.{words_in, header_fits, filler_fits}
use Rattle.frames.specs.declared.ProtMode.{ProtMode}
use Rattle.frames.specs.Modes.{encrypts, prot_mode_of}
use Rattle.payload.proofs.Data.{blocks_hold, blocks_fit}
use Rattle.payload.proofs.Lengths.{blocks_whole, dec_joined}
use Rattle.payload.proofs.Macs.{into_taken}
use Rattle.payload.proofs.Overs.{over_taken}
use Rattle.reader.specs.Own.{data_room}
use Rattle.reader.specs.declared.Keys.{Keys}
use Rattle.reader.specs.declared.ReaderFault.TheVariants.{OwnMessage}
use Rattle.reader.specs.declared.ReaderFault.{ReaderFault}
use Rattle.reader_judge.specs.declared.Accepted.{Accepted}
use Rattle.reader_judge.specs.declared.tam2.Tam2Reply.{Tam2Reply}
use Rattle.reader_judge.specs.Findings.{Finding, carries, refused, worth_of, said_of, Judges}
use Rattle.reader_judge.specs.Judged.{data_finding, tam2_in_mode, tam2_finding, by_kind}
use Rattle.reader_judge.specs.Opened.{data_sent, opened_data}
use Rattle.ground.proofs.Checked.{passes, ends}
use Rattle.reader_judge.proofs.Every.{every_kind}
use Rattle.reader_judge.proofs.Judging.{judges, judges_as}

-- ---- lengths

-- a reply of its length has the authentication block and the data before the MAC
pub mac_place : (s : BlockSize) (rev : Bool) (n : ℕ) (mode : ProtMode) (k : ℕ) → k ≡ tam2_reply_length s rev n mode
    → tam2_mac_at s rev n ≤ k
unfolding tam2_reply_length
mac_place s rev n mode k e = omega (arith, e)

pub data_place : (s : BlockSize) (rev : Bool) (n : ℕ) (mode : ProtMode) (k : ℕ) → k ≡ tam2_reply_length s rev n mode
    → 16 + blocks_length s rev n ≤ k
unfolding tam2_mac_at
data_place s rev n mode k e = mac_place s rev n mode k e

pub words_most : (rev : Bool) (c : Custom) (p : List ℕ) → custom_fits c ≡ true → length (words_in rev c p) ≤ 144
unfolding words_in
words_most rev c p fit =
    let n = data_length c.blocksize c.blockcount in
    let rest = drop (header_part c.blocksize rev) p in
    omega (arith, length-take n rest, min-le_left n (length rest), blocks_hold rev c, blocks_fit rev c fit)

-- so that a data room has them
pub words_held : (rev : Bool) (c : Custom) (p words room : List ℕ) → custom_fits c ≡ true → words ≡ words_in rev c p
    → 144 ≤ length room → length words ≤ length room
words_held rev c p words room fit e h = omega (arith, ap length e, words_most rev c p fit)

abbrev blocks_of : Tam2 → ℕ
blocks_of f = blocks_length f.custom.blocksize f.rev f.custom.blockcount

-- ---- what is opened of a reply that has the blocks

module _ (keys : Keys) (mode : ProtMode) (f : Tam2) (reply : List ℕ) (h : 16 + blocks_of f ≤ length reply) where
  sent_long : length (data_sent f reply) ≡ blocks_of f
  sent_long = length-take-le _ (drop 16 reply) (omega (arith, length-drop 16 reply))

  sent_whole : length (data_sent f reply) % 16 ≡ 0
  sent_whole = omega (arith, sent_long, blocks_whole f.custom.blocksize f.rev f.custom.blockcount)

  pub opened_long : length (opened_data keys mode f reply) ≡ blocks_of f
  unfolding opened_data cbc_dec_aes_inv
  opened_long =
      picked (encrypts mode) _ _
      (dec_joined (aes_dec keys.enc) (whole_blocks (data_sent f reply)) (take 16 reply)
      ∙ omega (arith, whole_count (data_sent f reply), sent_whole, sent_long)) sent_long
    where
      picked : {n : ℕ} (t : Bool) (a b : List ℕ) → length a ≡ n → length b ≡ n → length (pick t a b) ≡ n
      picked true a b p q = p
      picked false a b p q = q

  -- into a room that has them
  module _ (r : ℕ) (room : List ℕ) (e : r ≡ blocks_of f) (fits : blocks_of f ≤ length room) where
    abbrev part : List ℕ
    part = take (16 + r - 16) (drop 16 reply)

    sent : part ≡ data_sent f reply
    sent = let k : 16 + r - 16 ≡ r = omega arith in ap (λ (j : ℕ). take j (drop 16 reply)) (k ∙ e)

    chained : chains (length part) (length room) ≡ true
    chained = enough (length part) (length room) (omega (arith, ap length sent, sent_whole))
        (omega (arith, ap length sent, sent_long))

    -- by the call that chains, which answers Ok: the data are whole blocks
    pub opened_taken : (iv after : List ℕ) (answer : Result Unit ChainingFault)
        → Into (chains (length part) (length room)) (cbc_dec_aes_inv iv keys.enc part) room answer after → IsOk answer
    opened_taken iv after answer i = rw (i.says, chained)

    pub opened_chained : (iv after : List ℕ) (answer : Result Unit ChainingFault) → encrypts mode ≡ true
        → iv ≡ first_block reply
        → Into (chains (length part) (length room)) (cbc_dec_aes_inv iv keys.enc part) room answer after
        → after ≡ over (opened_data keys mode f reply) room
    unfolding opened_data
    opened_chained iv after answer t v i =
        let opens : cbc_dec_aes_inv (take 16 reply) keys.enc (data_sent f reply) ≡ opened_data keys mode f reply =
        rw t in
        into_taken (chains (length part) (length room)) (cbc_dec_aes_inv iv keys.enc part) room after answer i chained
        ∙ ap (λ (d : List ℕ). over d room) (ap₂ (λ (x y : List ℕ). cbc_dec_aes_inv x keys.enc y)
        (v ∙ first_block_is reply (omega arith)) sent ∙ opens)

    -- by the copy
    pub opened_plain : (front : List ℕ) → encrypts mode ≡ false → front ≡ part
        → front ++ drop (16 + r - 16) room ≡ over (opened_data keys mode f reply) room
    unfolding opened_data
    opened_plain front t q =
        let opens : data_sent f reply ≡ opened_data keys mode f reply = rw t in
        let long : length part ≡ 16 + r - 16 = omega (arith, ap length sent, sent_long) in
        copied part room front (16 + r - 16) long q ∙ ap (λ (d : List ℕ). over d room) (sent ∙ opens)

  -- the front of a room that holds it
  pub opened_front : (n : ℕ) (room after : List ℕ) → n ≡ blocks_of f
      → after ≡ over (opened_data keys mode f reply) room → take n after ≡ opened_data keys mode f reply
  opened_front n room after e q =
      ap (take n) q ∙ over_taken (opened_data keys mode f reply) room n (opened_long ∙ sym e)

-- a reply as long as its message asks for has the blocks
pub blocks_there : (s : Tam2Reply) → 16 + blocks_of s.f ≤ length s.reply.now
blocks_there s = data_place s.f.custom.blocksize s.f.rev s.f.custom.blockcount s.mode (length s.reply.now) s.whole

-- ---- what is handed over

pub stored : (mode : ProtMode) (f : Tam2) (p words room front : List ℕ) (r : Result Accepted ReaderFault)
    → header_fits f.rev f.custom p ≡ true
    → filler_fits f.rev f.custom p ≡ true
    → words ≡ words_in f.rev f.custom p → r ≡ said_of (carries (worth_of mode) words)
    → front ≡ words → Judges (data_finding mode f p) room r (front ++ drop (length words) room)
unfolding data_finding
stored mode f p words room front r h k e s q =
    judges_as (passes _ _ _ _ h (passes _ _ _ _ k (ends _ _)))
    (judges (carries (worth_of mode) (words_in f.rev f.custom p)) room (front ++ drop (length words) room) r
    (s ∙ ap (λ (l : List ℕ). said_of (carries (worth_of mode) l)) e)
    (copied words room front (length words) refl q ∙ ap (λ (l : List ℕ). over l room) e))

-- the fields of a message of bytes fit their bits
pub tam2_in_range : (m : List ℕ) → Bytes m → custom_fits (tam2_of m).custom ≡ true
unfolding tam2_of custom_fits select_custom
tam2_in_range m h =
    let x = get_or m 12 0 in
    let y = get_or m 13 0 in
    let z = get_or m 14 0 in
    ap₂ both (lt-ltb (x / 16) 16 (omega (arith, h 12)))
    (ap₂ both (lt-ltb (x % 16 * 256 + y) 4096 (omega (arith, h 12, h 13))) (lt-ltb (z / 16) 16 (omega (arith, h 14))))

-- ---- a data room has the data of each reply

pub data_most : (keys : Keys) (m reply : List ℕ) (kind : Kind) → Bytes m
    → length (by_kind keys m reply kind).bytes ≤ data_room
data_most keys m reply kind h =
    every_kind (λ (f : Finding). length f.bytes ≤ data_room) (λ e. omega arith) keys m reply (omega arith)
    (λ c. omega arith) (λ mode p. words_most _ _ p (tam2_in_range m h)) kind

-- ---- the judgement is that of the mode

module _ (keys : Keys) (f : Tam2) (reply : List ℕ) where
  pub tam2_named : (mode : ProtMode) → prot_mode_of f.protmode ≡ Some mode
      → tam2_finding keys f reply ≡ tam2_in_mode keys f reply mode
  unfolding tam2_finding
  tam2_named mode named = rw named

  pub tam2_unnamed : prot_mode_of f.protmode ≡ None → tam2_finding keys f reply ≡ refused OwnMessage
  unfolding tam2_finding
  tam2_unnamed none = rw none
