-- TAM2: the reader opens the data that the tag carried, and finds the words that went in.
use Rattle.std.specs.Prelude.{Option, Some}
use mathlib.Core.Path.{◌≡◌, refl, sym, ap, ap₂, ◌∙◌, subst}
use mathlib.Core.Bool.{Bool, true, false}
use mathlib.Core.List.{List, [], ◌++◌, append_assoc}
use Prim.Native.Nat.{ℕ, ◌+◌, ◌%◌, ◌≤◌, ◌<◌}
use native.Mathlib.Omega.{arith}
use borrow.Author.Tests.{eq-eqb}
use lib.ListN.{length, get_or, take, drop, length-append}
use lib.Seq.{take_at, drop_at, length-take-le}
use Rattle.ground.specs.Bytes.{Bytes, two_bytes}
use Rattle.ground.specs.Choice.{pick, both, implies}
use Rattle.ground.proofs.Checked.{passes, ends}
use Rattle.aes.specs.AesEnc.{aes_enc}
use Rattle.modes.specs.Cbc.{cbc_enc_aes}
use Rattle.modes.specs.Cmac.{cmac96}
use Rattle.modes.specs.Room.{macs}
use Rattle.modes.proofs.Rooms.{room_for_mac}
use Rattle.modes.proofs.Whole.{bytes_take}
use Rattle.modes_inverse.specs.CbcInv.{cbc_dec_aes_inv}
use Rattle.modes_inverse.proofs.Inverse.{dec_inv_undoes_enc}
use Rattle.sheet.specs.declared.Key.{Key}
use Rattle.frames.specs.declared.Tam2.{Tam2}
use Rattle.frames.specs.Blocks.{data_length, blocks_length}
use Rattle.frames.specs.Constants.{tam2_constant}
use Rattle.frames.specs.Fields.{custom_fits}
use Rattle.frames.specs.declared.ProtMode.{ProtMode}
use Rattle.frames.specs.Modes.{encrypts, has_mac, in_mode, prot_mode_of}
use Rattle.frames.specs.Lengths.{tam2_mac_at}
use Rattle.octets.specs.Alike.{same}
use Rattle.payload.specs.Data.{carried_data}
use Rattle.payload.specs.Protected.{with_mac, mac_fits}
use Rattle.octets.proofs.Alike.{same_self}
use Rattle.payload.proofs.Data.{carried_long}
use Rattle.payload.proofs.Lengths.{blocks_whole}
use Rattle.payload.proofs.Recovered.{header_carried, words_carried, filler_carried}
use Rattle.tam.specs.Replies.{tam_block, tam2_body, tam2_in_mode, tam2_reply}
use Rattle.offer.proofs.Bytes.{Ten}
use Rattle.tam.proofs.ReplyBytes.{tam2_constant_le, tam_block_block, carried_bytes}
use Rattle.tam.proofs.ReplyLengths.{tam_block_long, body_long, tam2_long, tam2_named}
use Rattle.reader.specs.declared.Keys.{Keys}
use Rattle.reader_judge.specs.Findings.{carries, worth_of}
use Rattle.reader_judge.specs.Judged.{data_finding, tam2_in_mode as judged_in_mode, tam2_finding}
use Rattle.reader_judge.specs.declared.Worth.TheVariants.{NoData}
use Rattle.reader_judge.proofs.Clear.{tam2_named as tam2-found-named}
use Rattle.reader_judge.specs.Opened.{opened_block, block_fits, data_sent, opened_data}
use Rattle.claims.specs.Recovery.{Shares, worth_asked}
use Rattle.claims.proofs.Opens.{opens, block_right}

made_block : (enc constant draws ichallenge : List ℕ)
    → tam_block enc constant draws ichallenge ≡ aes_enc enc (constant ++ (take 4 draws ++ ichallenge))
unfolding tam_block
made_block enc constant draws ichallenge = refl

-- what was chained or not comes back
undone : (b : Bool) (a enc p : List ℕ) → Bytes a → Bytes enc → Bytes p → length p % 16 ≡ 0
    → pick b (cbc_dec_aes_inv a enc (pick b (cbc_enc_aes a enc p) p)) (pick b (cbc_enc_aes a enc p) p) ≡ p
undone true a enc p ha he hp w = dec_inv_undoes_enc a enc p ha he hp w
undone false a enc p ha he hp w = refl

-- the MAC that was put there, where there is one
pub mac_there : (b : Bool) (mackey s : List ℕ) → macs (length s) 12 ≡ true
    → implies b (both (macs (length s) 12) (same (cmac96 mackey s) (pick b (cmac96 mackey s) []))) ≡ true
mac_there true mackey s t = ap₂ both t (same_self (cmac96 mackey s))
mac_there false mackey s t = refl

module _ (keys : Keys) (key : Key) (e : Shares keys key) (b : Bytes keys.enc) (draws : List ℕ) (d : Ten draws)
    (f : Tam2) (mode : ProtMode) (t : Ten f.ichallenge) (fit : custom_fits f.custom ≡ true)
    (words : List ℕ) (all : length words ≡ data_length f.custom.blocksize f.custom.blockcount) (w : Bytes words)
  where
    abbrev count : ℕ
    count = blocks_length f.custom.blocksize f.rev f.custom.blockcount

    -- the authentication block, the data in the clear and as they are sent, and the MAC
    abbrev block : List ℕ
    block = tam_block key.enc (two_bytes (tam2_constant f.rev mode)) draws f.ichallenge

    abbrev clear : List ℕ
    clear = carried_data f.rev f.custom words

    abbrev sent : List ℕ
    sent = pick (encrypts mode) (cbc_enc_aes block key.enc clear) clear

    abbrev mac : List ℕ
    mac = pick (has_mac mode) (cmac96 key.mackey (block ++ sent)) []

    abbrev reply : List ℕ
    reply = (block ++ sent) ++ mac

    reply_is : tam2_in_mode key f words draws mode ≡ reply
    unfolding tam2_in_mode with_mac tam2_body
    reply_is = refl

    few : length words ≤ data_length f.custom.blocksize f.custom.blockcount
    few = omega (arith, all)

    clear_long : length clear ≡ count
    clear_long = carried_long f.rev f.custom words all

    clear_whole : length clear % 16 ≡ 0
    clear_whole = omega (arith, clear_long, blocks_whole f.custom.blocksize f.rev f.custom.blockcount)

    block_long : length block ≡ 16
    block_long = tam_block_long key.enc (two_bytes (tam2_constant f.rev mode)) draws f.ichallenge

    sent_long : length sent ≡ count
    sent_long = body_long mode block key.enc clear clear_whole ∙ clear_long

    both_long : length (block ++ sent) ≡ 16 + count
    both_long = length-append block sent ∙ ap₂ (λ (i j : ℕ). i + j) block_long sent_long

    front : take 16 reply ≡ block
    front = ap (take 16) (append_assoc block sent mac) ∙ take_at block (sent ++ mac) 16 block_long

    middle : data_sent f reply ≡ sent
    middle = ap (λ (l : List ℕ). take count (drop 16 l)) (append_assoc block sent mac)
        ∙ ap (take count) (drop_at block (sent ++ mac) 16 block_long) ∙ take_at sent mac count sent_long

    block_fits_lem : block_fits (two_bytes (tam2_constant f.rev mode)) f.ichallenge (opened_block keys reply) ≡
        true
    block_fits_lem =
        let four : length (take 4 draws) ≡ 4 = length-take-le 4 draws (omega (arith, d.ten)) in
        let k = tam2_constant f.rev mode in
        ap (block_fits (two_bytes k) f.ichallenge) (opens k (take 4 draws) f.ichallenge four keys key.enc reply
        e.has.enc b
        (tam2_constant_le f.rev mode) (bytes_take 4 draws d.bytes) t
        (front ∙ made_block key.enc (two_bytes k) draws f.ichallenge))
        ∙ block_right k (take 4 draws) f.ichallenge four

    mac_fits_lem : mac_fits keys.mackey mode (take
        (tam2_mac_at f.custom.blocksize f.rev f.custom.blockcount) reply)
        (drop (tam2_mac_at f.custom.blocksize f.rev f.custom.blockcount) reply) ≡ true
    unfolding mac_fits tam2_mac_at
    mac_fits_lem =
        let whole : length (block ++ sent) % 16 ≡ 0 =
        omega (arith, both_long, blocks_whole f.custom.blocksize f.rev f.custom.blockcount) in
        let t = room_for_mac (length (block ++ sent)) 12 (omega (arith, both_long)) whole (omega arith) in
        (λ i. mac_fits (e.has.mackey i) mode (take_at (block ++ sent) mac (16 + count) both_long i)
        (drop_at (block ++ sent) mac (16 + count) both_long i))
        ∙ mac_there (has_mac mode) key.mackey (block ++ sent) t

    opened : opened_data keys mode f reply ≡ clear
    unfolding opened_data
    opened =
        let be : Bytes key.enc = λ i. subst (λ (l : List ℕ). get_or l i 0 < 256) e.has.enc (b i) in
        (λ i. pick (encrypts mode) (cbc_dec_aes_inv (front i) (e.has.enc i) (middle i)) (middle i))
        ∙ undone (encrypts mode) block key.enc clear
        (tam_block_block draws d key.enc f.ichallenge (tam2_constant f.rev mode) be
        (tam2_constant_le f.rev mode) t).bytes be
        (carried_bytes f.rev f.custom words fit w) clear_whole

    clear_found : data_finding mode f clear ≡ carries (worth_of mode) words
    unfolding data_finding
    clear_found =
        let h = header_carried f.custom words f.rev fit in
        let k = filler_carried f.custom words f.rev all in
        sym (passes _ _ _ _ h (passes _ _ _ _ k (ends _ _)))
        ∙ ap (carries (worth_of mode)) (words_carried f.custom words f.rev all)

    in_mode_lem : judged_in_mode keys f (tam2_in_mode key f words draws mode) mode ≡ carries (worth_of mode) words
    unfolding judged_in_mode
    in_mode_lem =
        ap (λ (l : List ℕ). judged_in_mode keys f l mode) reply_is
        ∙ sym
        (passes _ _ _ _ (eq-eqb _ _ (sym (ap length reply_is) ∙ tam2_long key f words draws mode few))
        (passes _ _ _ _ block_fits_lem (passes _ _ _ _ mac_fits_lem (ends _ _))))
        ∙ ap (data_finding mode f) opened
        ∙ clear_found

    pub tam2_found : prot_mode_of f.protmode ≡ Some mode
        → tam2_finding keys f (tam2_reply key f words draws) ≡ carries (worth_asked f.protmode) words
    tam2_found named =
        tam2-found-named keys f (tam2_reply key f words draws) mode named
        ∙ ap (λ (l : List ℕ). judged_in_mode keys f l mode) (tam2_named key f words draws mode named)
        ∙ in_mode_lem
        ∙ ap (λ (x : Option ProtMode). carries (in_mode x worth_of NoData) words) (sym named)
