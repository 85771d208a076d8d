-- Entry by IAM3, proved: CBC_DEC_AES undoes CBC_ENC_AES_INV, the MAC is over what is sent, and header, data and filler
-- come out as they went in.
use Rattle.std.specs.Prelude.{Some}
use mathlib.Core.Path.{◌≡◌, refl, sym, ap, ap₂, ◌∙◌}
use mathlib.Core.Bool.{Bool, true, not}
use mathlib.Core.List.{List, ◌++◌}
use Prim.Native.Nat.{ℕ, ◌+◌, ◌<◌}
use native.Mathlib.Omega.{arith}
use lib.ListN.{length, length-append}
use Rattle.ground.specs.Bytes.{Bytes, byte_at}
use Rattle.ground.specs.Choice.{both}
use Rattle.aes.specs.AesEnc.{aes_enc}
use Rattle.memory.specs.declared.Area.TheVariants.{Identity, User}
use Rattle.memory.specs.Areas.{stored_in}
use Rattle.frames.specs.declared.Custom.{Custom}
use Rattle.frames.specs.declared.Iam3.{Iam3}
use Rattle.frames.specs.declared.Kind.TheVariants.{Iam3 as Iam3K}
use Rattle.frames.specs.Blocks.{data_length, blocks_length}
use Rattle.frames.specs.Constants.{c_iam3_0, c_iam3_1, c_iam3_2, c_iam3_3, iam3_constant}
use Rattle.frames.specs.Fields.{custom_fits}
use Rattle.frames.specs.Kinds.{kind_of}
use Rattle.frames.specs.Lengths.{length_fits}
use Rattle.frames.specs.Messages.{iam3_of, iam3_head}
use Rattle.frames.specs.declared.ProtMode.{ProtMode}
use Rattle.frames.specs.Modes.{prot_mode_of}
use Rattle.frames.proofs.ProtModes.{Says, says}
use Rattle.frames.proofs.Bounds.{by_mode_le}
use Rattle.frames.proofs.Range.{both_left, both_right, select_range}
use Rattle.frames.proofs.Shape.{iam3_head_lem, iam3_begins, iam3_whole_lem}
use Rattle.frames.proofs.Taken.{iam3_taken}
use Rattle.payload.specs.Data.{carried_data, header_fits, filler_fits}
use Rattle.payload.proofs.Data.{carried_long}
use Rattle.payload.proofs.Recovered.{header_carried, words_carried, filler_carried}
use Rattle.entry.specs.Opened.{purpose_in, iam_proof, sent_block, opened_in, opened_data, words_in, proved_in}
use Rattle.entry.specs.Opened.{iam3_proof}
use Rattle.entry.proofs.Sent.{opened_named, proof_named}
use Rattle.entry.specs.Judged.{iam3_checks}
use Rattle.keytable.specs.Named.{key_with}
use Rattle.offer.specs.Records.{block_asked}
use Rattle.tag.specs.Answers.{Call, let_in, if_fine, iam3_answer, by_kind, answer_with}
use Rattle.offer.proofs.Lines.{passes, ends}
use Rattle.tam.proofs.ReplyBytes.{carried_bytes}
use Rattle.reader.specs.declared.Keys.{Keys}
use Rattle.reader_build.specs.Builds.{purpose_fits, data_fits, iam3_whole, iam3_in_mode, iam3_made, iam3_fits}
use Rattle.reader.specs.Own.{mode_served, mode_fits}
use Rattle.reader_build.proofs.Making.{part_fits, parts_fit, part_count, part_select, part_purposed}
use Rattle.sheet.specs.Setups.{Setup}
use Rattle.entry.specs.declared.Session.{Session}
use Rattle.claims.proofs.InTurn.{in_turn_lem}
use Rattle.claims.specs.Entry.{Array, Knows, Writable, Iam3Enters}
use Rattle.claims.proofs.Proofs.{sent, sixteen, opened, clear, purpose_in_lem, iam_holds, sent_bytes}
use Rattle.claims.proofs.Opened.{head, body, mac, as_head, rest_long, block_sent, mac_fits_lem, data_opened}

small : (mode : ProtMode) → iam3_constant mode < 4096
unfolding iam3_constant
small mode = omega (
  arith,
  by_mode_le c_iam3_0 c_iam3_1 c_iam3_2 c_iam3_3 mode 0xDAB (omega arith) (omega arith)
      (omega arith) (omega arith),
)

-- what the reader held to be fit
module _ (keys : Keys) (custom : Custom) (protmode purpose n : ℕ)
    (fit : iam3_fits keys custom protmode purpose n ≡ true)
  where
    all : both (part_fits keys custom protmode purpose n) (custom_fits custom) ≡ true
    all = parts_fit keys custom protmode purpose n ∙ fit

    part : part_fits keys custom protmode purpose n ≡ true
    part = both_left (part_fits keys custom protmode purpose n) (custom_fits custom) all

    ranged : custom_fits custom ≡ true
    ranged = both_right (part_fits keys custom protmode purpose n) (custom_fits custom) all

    count : n ≡ data_length custom.blocksize custom.blockcount
    count = part_count keys custom protmode purpose n part

    bits : protmode < 16
    bits = (select_range 0 custom protmode (part_select keys custom protmode purpose n part ranged)).protmode

    asked : Says protmode (mode_served keys)
    unfolding mode_fits
    asked = says protmode (mode_served keys)
        (both_left (mode_fits keys protmode) (both (purpose_fits purpose) (data_fits custom n)) part)

    purposed : purpose_fits purpose ≡ true
    purposed = part_purposed keys custom protmode purpose n part

made_named : (keys : Keys) (custom : Custom) (protmode purpose : ℕ) (irnd tchallenge words : List ℕ) (mode : ProtMode)
    → prot_mode_of protmode ≡ Some mode
    → iam3_made keys custom protmode purpose irnd tchallenge words
    ≡ iam3_in_mode keys custom protmode purpose irnd tchallenge words mode
unfolding iam3_made
made_named keys custom protmode purpose irnd tchallenge words mode named = rw named

iam3_let_in : (c : Call) (setup : Setup) (held : Session) (keys : Keys) (custom : Custom) (protmode purpose : ℕ)
    (irnd words : List ℕ)
    → Knows keys (key_with held.keyid setup.keys)
    → Array 10 held.tchallenge
    → Array 4 irnd
    → Bytes words
    → iam3_fits keys custom protmode purpose (length words) ≡ true
    → Writable setup (key_with held.keyid setup.keys) custom protmode
    → c.message ≡ iam3_made keys custom protmode purpose irnd held.tchallenge words
    → iam3_answer c setup held
    ≡ let_in c purpose (stored_in Identity (block_asked setup.profiles custom) words c.identity)
    (stored_in User (block_asked setup.profiles custom) words c.user)
unfolding iam3_in_mode iam3_answer iam3_checks proved_in length_fits if_fine
iam3_let_in c setup held keys custom protmode purpose irnd words knows t m w fit may e =
    let key = key_with held.keyid setup.keys in
    let mode = (asked keys custom protmode purpose (length words) fit).mode in
    let named = (asked keys custom protmode purpose (length words) fit).named in
    let k = iam3_constant mode in
    let a = sent keys key k purpose irnd held.tchallenge knows (small mode) m t in
    let n = sixteen keys key k purpose irnd held.tchallenge knows (small mode) m t in
    let p = carried_data true custom words in
    let all = count keys custom protmode purpose (length words) fit in
    let cf = ranged keys custom protmode purpose (length words) fit in
    let pm = bits keys custom protmode purpose (length words) fit in
    let bl : length p ≡ blocks_length custom.blocksize true custom.blockcount =
    carried_long true custom words all in
    let f : Iam3 = head keys custom protmode mode a p n bl in
    let r = body keys custom protmode mode a p n bl ++ mac keys custom protmode mode a p n bl in
    let whole : c.message ≡ iam3_whole keys custom protmode mode a p =
    e ∙ made_named keys custom protmode purpose irnd held.tchallenge words mode named in
    let form = whole ∙ as_head keys custom protmode mode a p n bl in
    let taken : iam3_of c.message ≡ f = ap iam3_of form ∙ iam3_taken f r n (omega arith) cf pm in
    let long : length_fits Iam3K c.message ≡ true = ap (length_fits Iam3K) form
    ∙ iam3_whole_lem f n r mode (omega arith) cf pm named (rest_long keys custom protmode mode a p n bl) in
    let block : aes_enc key.enc (sent_block c.message) ≡ clear k purpose irnd held.tchallenge m.long t.long
    =
    ap (aes_enc key.enc) (block_sent keys custom protmode mode a p n bl c.message whole)
    ∙ opened keys key k purpose irnd held.tchallenge knows (small mode) m t in
    let pd : opened_in key mode f c.message ≡ p =
    data_opened keys custom protmode mode a p n bl c.message whole key knows
    (sent_bytes keys key k purpose irnd held.tchallenge knows (small mode) m t)
    (carried_bytes true custom words cf w) in
    let proof : iam3_proof key held f c.message ≡ true =
    proof_named key held mode f c.message named
    ∙ ap₂ both (ap (iam_proof k held) block ∙ iam_holds k purpose irnd held.tchallenge m.long t.long held refl)
    (ap₂ both (mac_fits_lem keys custom protmode mode a p n bl c.message whole key knows)
    (ap₂ both (ap (header_fits true custom) pd ∙ header_carried custom words true cf)
    (ap (filler_fits true custom) pd ∙ filler_carried custom words true all))) in
    let fine =
    passes _ _ long (passes _ _ may.mode (passes _ _ refl (passes _ _ may.present (passes _ _ may.right
    (passes _ _ (ap₂ (λ (x y : Bool). both x (not y)) may.size may.inside)
    (passes _ _ (ap not may.unlocked) (passes _ _ proof ends))))))) in
    let ws : words_in custom (opened_data key f c.message) ≡ words =
    ap (words_in custom) (opened_named key held mode f c.message named ∙ pd)
    ∙ words_carried custom words true all in
    let ps : purpose_in (aes_enc key.enc (sent_block c.message)) ≡ purpose =
    ap purpose_in block ∙ purpose_in_lem k purpose irnd held.tchallenge m.long t.long
    (purposed keys custom protmode purpose (length words) fit) in
    rw taken
    (λ i. if_fine c (sym fine i) (let_in c (ps i) (stored_in Identity (block_asked setup.profiles custom) (ws i)
    c.identity) (stored_in User (block_asked setup.profiles custom) (ws i) c.user)))

pub iam3_enters : Iam3Enters
unfolding by_kind iam3_in_mode
iam3_enters c tag keys custom protmode purpose irnd words w knows t m b fit may e =
    let key = key_with tag.session.keyid tag.setup.keys in
    let mode = (asked keys custom protmode purpose (length words) fit).mode in
    let k = iam3_constant mode in
    let a = sent keys key k purpose irnd tag.session.tchallenge knows (small mode) m t in
    let n = sixteen keys key k purpose irnd tag.session.tchallenge knows (small mode) m t in
    let p = carried_data true custom words in
    let bl : length p ≡ blocks_length custom.blocksize true custom.blockcount =
    carried_long true custom words (count keys custom protmode purpose (length words) fit) in
    let f : Iam3 = head keys custom protmode mode a p n bl in
    let r = body keys custom protmode mode a p n bl ++ mac keys custom protmode mode a p n bl in
    let form = e ∙ made_named keys custom protmode purpose irnd tag.session.tchallenge words mode
    (asked keys custom protmode purpose (length words) fit).named ∙ as_head keys custom protmode mode a p n bl in
    let l : length c.message ≡ length (iam3_head f) + length r = ap length form ∙ length-append (iam3_head f) r in
    ap (answer_with tag.setup)
    (in_turn_lem c tag Iam3K w (omega (arith, l, iam3_head_lem f n))
    (ap (λ (x : List ℕ). kind_of (byte_at x 0)) form ∙ iam3_begins f n r (omega arith))
    ∙ iam3_let_in c tag.setup tag.session keys custom protmode purpose irnd words knows t m b fit may e)
