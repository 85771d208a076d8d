-- An accepted reply is made again from what was found in it.
use Rattle.std.specs.Prelude.{Ok, Option, Some, None}
use Rattle.std.proofs.lemmas.List.{nil_from_length}
use mathlib.Core.Path.{◌≡◌, refl, sym, ap, ap₂, ◌∙◌}
use mathlib.Core.Bool.{Bool, true, false}
use mathlib.Core.List.{List, [], ◌∷◌, ◌++◌}
use Prim.Native.Nat.{ℕ, ◌+◌, ◌%◌, ◌≤◌}
use native.Mathlib.Omega.{arith}
use borrow.Author.Tests.{eqb-true}
use lib.Dec.{eqb}
use lib.ListN.{length, take, drop, length-drop, take-append-drop}
use lib.Seq.{take-add, take_at, drop_at, drop-drop, take_all, length-take-le}
use Rattle.ground.specs.Bytes.{Bytes, two_bytes, byte_at}
use Rattle.ground.specs.Choice.{pick, both, implies}
use Rattle.ground.specs.Checks.{judged_to}
use Rattle.aes.specs.AesEnc.{aes_enc}
use Rattle.aes_inverse.specs.AesDec.{aes_dec}
use Rattle.aes_inverse.proofs.Inverse.{enc_dec, dec_block}
use Rattle.modes.specs.Cbc.{cbc_enc_aes}
use Rattle.modes.specs.Cmac.{cmac96}
use Rattle.modes.specs.Room.{macs}
use Rattle.modes.proofs.Whole.{bytes_take}
use Rattle.modes_inverse.specs.CbcInv.{cbc_dec_aes_inv}
use Rattle.modes_inverse.proofs.Inverse.{cbc_dec_aes_inv_length}
use Rattle.sheet.specs.declared.Key.{Key}
use Rattle.frames.specs.declared.Kind.{Kind}
use Rattle.frames.specs.declared.Kind.TheVariants.{Tam1, Tam2, Iam1, Iam2, Iam3, Mam1, Mam2, Unsupported}
use Rattle.frames.specs.declared.Tam1.{Tam1 as Tam1Fields}
use Rattle.frames.specs.declared.Tam2.{Tam2 as Tam2Fields}
use Rattle.frames.specs.declared.Mam1.{Mam1 as Mam1Fields}
use Rattle.frames.specs.Blocks.{blocks_length}
use Rattle.frames.specs.Constants.{c_tam1, c_mam1, tam2_constant}
use Rattle.frames.specs.Kinds.{kind_of}
use Rattle.frames.specs.declared.ProtMode.{ProtMode}
use Rattle.frames.specs.Modes.{encrypts, has_mac, in_mode, prot_mode_of}
use Rattle.frames.specs.Lengths.{mac_length, iam1_reply_length, tam2_mac_at, tam2_reply_length}
use Rattle.frames.specs.Messages.{tam1_of, tam2_of, mam1_of}
use Rattle.frames.proofs.Range.{both_left, both_right}
use Rattle.octets.specs.Alike.{same}
use Rattle.payload.specs.Data.{carried_data, words_in}
use Rattle.payload.specs.Protected.{with_mac, mac_fits}
use Rattle.octets.proofs.Alike.{same_equal}
use Rattle.payload.proofs.Lengths.{blocks_whole}
use Rattle.payload.proofs.Recovered.{carried_only}
use Rattle.tam.specs.Replies.{tam_block, tam1_reply, tam2_body, tam2_in_mode, tam2_reply}
use Rattle.entry.specs.Replies.{mam1_reply}
use Rattle.offer.proofs.Bytes.{drop_bytes}
use Rattle.reader.specs.declared.ReaderFault.{ReaderFault}
use Rattle.reader.specs.declared.ReaderFault.TheVariants.{ReplyLength, OwnMessage}
use Rattle.reader.specs.declared.Keys.{Keys}
use Rattle.reader_judge.specs.Findings.{Finding, refused, issues}
use Rattle.reader_judge.specs.Judged.{tam2_in_mode as judged_in_mode}
use Rattle.reader_judge.specs.Judged.{
  data_finding,
  iam1_finding,
  empty_finding,
  tam1_finding,
  tam2_finding,
  mam1_finding,
  by_kind,
  of_kind,
  judgement_of,
}
use Rattle.reader_judge.specs.Opened.{opened_block, block_fits, challenge_in, data_sent, opened_data}
use Rattle.reader.specs.Own.{own_fits}
use Rattle.claims.specs.Fixed.{trnd_in, remade, Fixed, has_trnd, FixedTwice}
use Rattle.claims.specs.Recovery.{Shares}
use Rattle.claims.proofs.Rechained.{enc_undoes_dec_inv}

-- ---- a line of checks that ends well

accepted_first : (b : Bool) (x : Finding) (f : ReaderFault) → (pick b x (refused f)).verdict ≡ Ok tt → (b ≡ true)
    × (x.verdict ≡ Ok tt) × (pick b x (refused f) ≡ x)
accepted_first true x f e = (refl, e, refl)
accepted_first false x f e = absurd cc

six_left : (l : List ℕ) → length l ≡ 22 → length (drop 16 l) ≡ 6
six_left l n = omega (arith, length-drop 16 l)

block_long : (l : List ℕ) (n mac : ℕ) → length l ≡ 16 + n + mac → 16 ≤ length l
block_long l n mac long = omega arith

-- ---- blocks

-- an opened block that fits is the constant, four bytes and the challenge
block_is : (constant challenge b : List ℕ) → length constant ≡ 2 → block_fits constant challenge b ≡ true
    → b ≡ constant ++ (take 4 (drop 2 b) ++ challenge)
unfolding block_fits
block_is constant challenge b two h =
    let first : take 2 b ≡ constant = same_equal (take 2 b) constant
    (both_left (same (take 2 b) constant) (same (drop 6 b) challenge) h) in
    let last : drop 4 (drop 2 b) ≡ challenge = drop-drop 4 2 b
    ∙ same_equal (drop 6 b) challenge (both_right (same (take 2 b) constant) (same (drop 6 b) challenge) h) in
    sym (take-append-drop 2 b) ∙ ap₂ {C = List ℕ} (λ x y. x ++ y) first
    (sym (take-append-drop 4 (drop 2 b)) ∙ ap (λ (l : List ℕ). take 4 (drop 2 b) ++ l) last)

module _ (keys : Keys) (key : Key) (share : Shares keys key) (he : Bytes keys.enc) (reply : List ℕ)
    (hr : Bytes reply) where
  -- the block that came is AES-ENC of what was opened
  closed_again : 16 ≤ length reply → take 16 reply ≡ aes_enc key.enc (opened_block keys reply)
  unfolding opened_block
  closed_again n =
      sym (enc_dec keys.enc (take 16 reply) he (record
      { sixteen = length-take-le 16 reply n; bytes = bytes_take 16 reply hr }))
      ∙ (λ j. aes_enc (share.has.enc j) (aes_dec keys.enc (take 16 reply)))

  -- the same, by its parts
  made_again : (constant challenge : List ℕ) → length constant ≡ 2 → 16 ≤ length reply
      → block_fits constant challenge (opened_block keys reply) ≡ true
      → take 16 reply ≡ aes_enc key.enc (constant ++ (trnd_in keys reply ++ challenge))
  made_again constant challenge two n h = closed_again n
      ∙ ap (aes_enc key.enc) (block_is constant challenge (opened_block keys reply) two h)

  opened_long : 16 ≤ length reply → length (opened_block keys reply) ≡ 16
  unfolding opened_block
  opened_long n = (dec_block keys.enc (take 16 reply) he
      (record { sixteen = length-take-le 16 reply n; bytes = bytes_take 16 reply hr })).sixteen

  trnd_four : 16 ≤ length reply → take 4 (trnd_in keys reply) ≡ trnd_in keys reply
  trnd_four n =
      let l : length (trnd_in keys reply) ≡ 4 = length-take-le 4 (drop 2 (opened_block keys reply))
      (omega (arith, length-drop 2 (opened_block keys reply), opened_long n)) in
      take_all 4 (trnd_in keys reply) (omega arith)

  two_long : (k : ℕ) → length (two_bytes k) ≡ 2
  two_long k = refl

  -- TAM1
  tam1_fixed : (f : Tam1Fields) → (tam1_finding keys f reply).verdict ≡ Ok tt
      → reply ≡ tam1_reply key f (trnd_in keys reply)
  unfolding tam1_finding judged_to tam1_reply tam_block
  tam1_fixed f e =
      let one = accepted_first _ _ _ e in
      let two = accepted_first _ _ _ one.1 in
      let n : length reply ≡ 16 = eqb-true _ _ one.0 in
      sym (take_all 16 reply (omega arith)) ∙ made_again (two_bytes c_tam1) f.ichallenge (two_long c_tam1)
      (omega arith) two.0
      ∙ ap (λ (l : List ℕ). aes_enc key.enc (two_bytes c_tam1 ++ (l ++ f.ichallenge))) (sym (trnd_four (omega arith)))

  -- MAM1
  mam1_fixed : (f : Mam1Fields) → (mam1_finding keys f reply).verdict ≡ Ok tt
      → reply ≡ mam1_reply key f (mam1_finding keys f reply).challenge
  unfolding mam1_finding judged_to mam1_reply challenge_in
  mam1_fixed f e =
      let one = accepted_first _ _ _ e in
      let two = accepted_first _ _ _ one.1 in
      let n : length reply ≡ 22 = eqb-true _ _ one.0 in
      let found : (mam1_finding keys f reply).challenge ≡ drop 16 reply ++ trnd_in keys reply =
      ap (λ (x : Finding). x.challenge) (one.2 ∙ two.2) in
      let six : length (drop 16 reply) ≡ 6 = six_left reply n in
      let inside : drop 6 (mam1_finding keys f reply).challenge ≡ trnd_in keys reply = ap (drop 6) found
      ∙ drop_at (drop 16 reply) (trnd_in keys reply) 6 six in
      let clear : take 6 (mam1_finding keys f reply).challenge ≡ drop 16 reply = ap (take 6) found
      ∙ take_at (drop 16 reply) (trnd_in keys reply) 6 six in
      sym (take-append-drop 16 reply)
      ∙ ap₂ {C = List ℕ} (λ x y. x ++ y)
      (made_again (two_bytes c_mam1) f.ichallenge (two_long c_mam1) (omega arith) two.0
      ∙ ap (λ (l : List ℕ). aes_enc key.enc (two_bytes c_mam1 ++ (l ++ f.ichallenge))) (sym inside))
      (sym clear)

  -- TAM2
  module _ (f : Tam2Fields) where
    abbrev count : ℕ
    count = blocks_length f.custom.blocksize f.rev f.custom.blockcount

    -- data that were opened, chained again
    rechained : (b : Bool) (a x : List ℕ) → Bytes a → Bytes x → length x % 16 ≡ 0
        → x ≡ pick b (cbc_enc_aes a key.enc (pick b (cbc_dec_aes_inv a keys.enc x) x))
        (pick b (cbc_dec_aes_inv a keys.enc x) x)
    rechained true a x ha hx w =
        sym (enc_undoes_dec_inv a keys.enc x ha he hx w)
        ∙ (λ j. cbc_enc_aes a (share.has.enc j) (cbc_dec_aes_inv a keys.enc x))
    rechained false a x ha hx w = refl

    opened_count : (b : Bool) (a x : List ℕ) → Bytes a → Bytes x → length x % 16 ≡ 0
        → length (pick b (cbc_dec_aes_inv a keys.enc x) x) ≡ length x
    opened_count true a x ha hx w = cbc_dec_aes_inv_length a keys.enc x ha he hx w
    opened_count false a x ha hx w = refl

    -- the MAC that fits is the one that is made
    mac_again : (b : Bool) (covered mac : List ℕ) → length mac ≡ pick b 12 0
        → implies b (both (macs (length covered) 12) (same (cmac96 keys.mackey covered) mac)) ≡ true
        → mac ≡ pick b (cmac96 key.mackey covered) []
    mac_again true covered mac l h =
        sym (same_equal (cmac96 keys.mackey covered) mac
        (both_right (macs (length covered) 12) (same (cmac96 keys.mackey covered) mac) h))
        ∙ (λ j. cmac96 (share.has.mackey j) covered)
    mac_again false covered mac l h = nil_from_length mac l

    module _ (mode : ProtMode) where
      abbrev opened : List ℕ
      opened = opened_data keys mode f reply

      -- the parts of a reply of the right length
      module _ (n : length reply ≡ 16 + count + mac_length mode) where
        sent_long : length (data_sent f reply) ≡ count
        sent_long = length-take-le count (drop 16 reply) (omega (arith, length-drop 16 reply))

        sent_whole : length (data_sent f reply) % 16 ≡ 0
        sent_whole = omega (arith, sent_long, blocks_whole f.custom.blocksize f.rev f.custom.blockcount)

        sent_bytes : Bytes (data_sent f reply)
        sent_bytes = bytes_take count (drop 16 reply) (drop_bytes 16 reply hr)

        data_long : length opened ≡ count
        unfolding opened_data
        data_long = opened_count (encrypts mode) (take 16 reply) (data_sent f reply) (bytes_take 16 reply hr)
            sent_bytes sent_whole ∙ sent_long

        sent_again : data_sent f reply ≡ pick (encrypts mode) (cbc_enc_aes (take 16 reply) key.enc opened) opened
        unfolding opened_data
        sent_again = rechained (encrypts mode) (take 16 reply) (data_sent f reply) (bytes_take 16 reply hr)
            sent_bytes sent_whole

        covered : take (16 + count) reply ≡ take 16 reply ++ data_sent f reply
        covered = take-add 16 count reply

        mac_long : length (drop (16 + count) reply) ≡ pick (has_mac mode) 12 0
        unfolding mac_length
        mac_long = omega (arith, length-drop (16 + count) reply)

      in_mode_fixed : (judged_in_mode keys f reply mode).verdict ≡ Ok tt
          → reply ≡ tam2_in_mode key f (judged_in_mode keys f reply mode).bytes (trnd_in keys reply) mode
      unfolding judged_in_mode judged_to data_finding tam2_reply_length tam2_mac_at mac_fits tam2_in_mode tam2_body
          with_mac tam_block
      in_mode_fixed e =
          let one = accepted_first _ _ _ e in
          let two = accepted_first _ _ _ one.1 in
          let three = accepted_first _ _ _ two.1 in
          let four = accepted_first _ _ _ three.1 in
          let five = accepted_first _ _ _ four.1 in
          let n : length reply ≡ 16 + count + mac_length mode = eqb-true _ _ one.0 in
          let long : 16 ≤ length reply = block_long reply count (mac_length mode) n in
          let words : (judged_in_mode keys f reply mode).bytes ≡ words_in f.rev f.custom opened =
          ap (λ (x : Finding). x.bytes) (one.2 ∙ two.2 ∙ three.2 ∙ four.2 ∙ five.2) in
          let k = two_bytes (tam2_constant f.rev mode) in
          let a : take 16 reply ≡ aes_enc key.enc (k ++ (take 4 (trnd_in keys reply) ++ f.ichallenge)) =
          made_again k f.ichallenge (two_long (tam2_constant f.rev mode)) long two.0
          ∙ ap (λ (l : List ℕ). aes_enc key.enc (k ++ (l ++ f.ichallenge))) (sym (trnd_four long)) in
          let p : opened ≡ carried_data f.rev f.custom (judged_in_mode keys f reply mode).bytes =
          carried_only f.custom opened f.rev (data_long n) four.0 five.0
          ∙ ap (carried_data f.rev f.custom) (sym words) in
          let s : take 16 reply ++ data_sent f reply ≡ _ =
          ap (λ (l : List ℕ). take 16 reply ++ l) (sent_again n)
          ∙ (λ j. a j ++ pick (encrypts mode) (cbc_enc_aes (a j) key.enc (p j)) (p j)) in
          let m : drop (16 + count) reply ≡ pick (has_mac mode) (cmac96 key.mackey (take (16 + count) reply))
          [] =
          mac_again (has_mac mode) (take (16 + count) reply) (drop (16 + count) reply) (mac_long n) three.0 in
          sym (take-append-drop (16 + count) reply)
          ∙ ap (λ (l : List ℕ). take (16 + count) reply ++ l) m
          ∙ ap (λ (l : List ℕ). l ++ pick (has_mac mode) (cmac96 key.mackey l) []) (covered n ∙ s)

    pub tam2_fixed : (tam2_finding keys f reply).verdict ≡ Ok tt
        → reply ≡ tam2_reply key f (tam2_finding keys f reply).bytes (trnd_in keys reply)
    unfolding tam2_finding tam2_reply
    tam2_fixed e = by (prot_mode_of f.protmode) e
      where
        by : (x : Option ProtMode)
            → (let found = in_mode x (judged_in_mode keys f reply) (refused OwnMessage) in found.verdict ≡ Ok tt
            → reply ≡ in_mode x (tam2_in_mode key f found.bytes (trnd_in keys reply)) [])
        by (Some mode) h = in_mode_fixed mode h
        by None h = absurd cc

  -- by kind
  iam1_fixed : (iam1_finding reply).verdict ≡ Ok tt → reply ≡ (iam1_finding reply).challenge
  unfolding iam1_finding judged_to
  iam1_fixed e = sym (ap (λ (x : Finding). x.challenge)
      (accepted_first (eqb (length reply) iam1_reply_length) (issues reply) ReplyLength e).2)

  empty_fixed : (empty_finding reply).verdict ≡ Ok tt → reply ≡ []
  unfolding empty_finding judged_to
  empty_fixed e = nil_from_length reply (eqb-true _ _ (accepted_first _ _ _ e).0)

  kind_fixed : (m : List ℕ) (k : Kind) → (by_kind keys m reply k).verdict ≡ Ok tt
      → reply ≡ remade key m (trnd_in keys reply) (by_kind keys m reply k) k
  unfolding by_kind remade
  kind_fixed m Tam1 e = tam1_fixed (tam1_of m) e
  kind_fixed m Tam2 e = tam2_fixed (tam2_of m) e
  kind_fixed m Iam1 e = iam1_fixed e
  kind_fixed m Iam2 e = empty_fixed e
  kind_fixed m Iam3 e = empty_fixed e
  kind_fixed m Mam1 e = mam1_fixed (mam1_of m) e
  kind_fixed m Mam2 e = empty_fixed e
  kind_fixed m Unsupported e = absurd cc

pub fixed : Fixed
unfolding judgement_of of_kind
fixed keys key [] reply room share he hr e = absurd cc
fixed keys key (first ∷ rest) reply room share he hr e =
    let one = accepted_first (own_fits keys (kind_of first) (first ∷ rest) room)
    (by_kind keys (first ∷ rest) reply (kind_of first)) OwnMessage e in
    kind_fixed keys key share he reply hr (first ∷ rest) (kind_of first) one.1
    ∙ ap (λ (x : Finding). remade key (first ∷ rest) (trnd_in keys reply) x (kind_of first)) (sym one.2)

-- random bytes count in TAM1 and TAM2 alone
remade_same : (key : Key) (m trnd trnd' : List ℕ) (found : Finding) (k : Kind) → (has_trnd k ≡ true → trnd ≡ trnd')
    → remade key m trnd found k ≡ remade key m trnd' found k
unfolding remade has_trnd
remade_same key m trnd trnd' found Tam1 h = ap (tam1_reply key (tam1_of m)) (h refl)
remade_same key m trnd trnd' found Tam2 h = ap (tam2_reply key (tam2_of m) found.bytes) (h refl)
remade_same key m trnd trnd' found Iam1 h = refl
remade_same key m trnd trnd' found Iam2 h = refl
remade_same key m trnd trnd' found Iam3 h = refl
remade_same key m trnd trnd' found Mam1 h = refl
remade_same key m trnd trnd' found Mam2 h = refl
remade_same key m trnd trnd' found Unsupported h = refl

pub fixed_twice : FixedTwice
fixed_twice keys key m reply other room share he hr ho e same-found same-trnd =
    let e' : (judgement_of keys m other room).verdict ≡ Ok tt = sym (ap (λ (x : Finding). x.verdict) same-found)
    ∙ e in
    fixed keys key m reply room share he hr e
    ∙ ap (λ (x : Finding). remade key m (trnd_in keys reply) x (kind_of (byte_at m 0))) same-found
    ∙ remade_same key m (trnd_in keys reply) (trnd_in keys other) (judgement_of keys m other room)
    (kind_of (byte_at m 0))
    same-trnd
    ∙ sym (fixed keys key m other room share he ho e')
