-- The reply to TAM2 from its parts, as they stand in the room.
use Rattle.std.specs.Prelude.{Option, Result}
use Rattle.modes.specs.declared.ChainingFault.{ChainingFault}
use mathlib.Core.Path.{◌≡◌, refl, sym, ap, ap₂, ◌∙◌}
use mathlib.Core.Bool.{Bool, true, false}
use mathlib.Core.List.{List, [], ◌++◌}
use Prim.Native.Nat.{ℕ, ◌+◌, ◌%◌, ◌≤◌}
use native.Mathlib.Omega.{arith}
use borrow.Author.Tests.{eq-eqb}
use lib.Dec.{eqb}
use lib.ListN.{length, take, drop, replicate, length-append, length-drop, length-replicate}
use lib.Seq.{length-take-le}
use Rattle.ground.specs.Bytes.{two_bytes}
use Rattle.ground.specs.Choice.{pick, both}
use Rattle.modes.specs.Cbc.{cbc_enc_aes}
use Rattle.modes.specs.Cmac.{cmac96}
use Rattle.modes.specs.Room.{Into, chains, over}
use Rattle.modes.proofs.Rooms.{copied, enough}
use Rattle.sheet.specs.declared.Key.{Key}
use Rattle.frames.specs.declared.Custom.{Custom}
use Rattle.frames.specs.declared.Tam2.{Tam2}
use Rattle.frames.specs.Blocks.{data_length, blocks_length}
use Rattle.frames.specs.Constants.{tam2_constant}
use Rattle.frames.specs.Fields.{custom_fits}
use Rattle.frames.specs.Built.{Built}
use Rattle.frames.specs.Lengths.{mac_length, reply_room, tam2_reply_length}
use Rattle.frames.proofs.Least.{data_bound}
use Rattle.frames.proofs.Range.{custom_range}
use Rattle.payload.specs.Data.{filled, carried_data}
use Rattle.frames.specs.declared.ProtMode.{ProtMode}
use Rattle.frames.specs.Modes.{encrypts, has_mac}
use Rattle.payload.specs.Protected.{mac_takes, with_mac}
use Rattle.payload.proofs.Data.{blocks_fit, carried_length, carried_long, filled_up}
use Rattle.payload.proofs.Zeros.{zeros_filled, filled_long, filled_part}
use Rattle.payload.proofs.Lengths.{blocks_whole}
use Rattle.payload.proofs.Macs.{whole_taken, mac_most, with_mac_long}
use Rattle.payload.proofs.Overs.{over_taken, front_finished}
use Rattle.payload.proofs.Rooms.{built_over}
use Rattle.tam.specs.Replies.{tam_block, tam2_body, tam2_in_mode}
use Rattle.tam.proofs.ReplyLengths.{tam_block_long, body_long, tam2_long}

-- a block and the data as they are sent, and what is sent of them
abbrev pub sent : ProtMode → List ℕ → List ℕ → List ℕ → List ℕ
sent mode enc a p = a ++ pick (encrypts mode) (cbc_enc_aes a enc p) p

abbrev pub mac_of : ProtMode → List ℕ → List ℕ → List ℕ
mac_of mode mackey s = pick (has_mac mode) (cmac96 mackey s) []

-- ---- the data as they are sent, into a room

module _ (mode : ProtMode) (b : Bool) (enc a p room : List ℕ) (told : b ≡ encrypts mode) where
  pub body_chained : (after : List ℕ) (answer : Result Unit ChainingFault) → b ≡ true → length p % 16 ≡ 0
      → length p ≤ length room
      → Into (chains (length p) (length room)) (cbc_enc_aes a enc p) room answer after
      → after ≡ over (pick (encrypts mode) (cbc_enc_aes a enc p) p) room
  body_chained after answer t w h i =
      i.leaves ∙ ap (λ (x : Bool). pick x (over (cbc_enc_aes a enc p) room) room) (enough (length p) (length room) w h)
      ∙ ap (λ (x : Bool). over (pick x (cbc_enc_aes a enc p) p) room) (sym t ∙ told)

  pub body_plain : (front : List ℕ) → b ≡ false → front ≡ p
      → front ++ drop (length p) room ≡ over (pick (encrypts mode) (cbc_enc_aes a enc p) p) room
  body_plain front f e =
      copied p room front (length p) refl e
      ∙ ap (λ (x : Bool). over (pick x (cbc_enc_aes a enc p) p) room) (sym f ∙ told)

-- ---- header, words and zeros

module _ (rev : Bool) (c : Custom) (words : List ℕ) (fit : custom_fits c ≡ true)
    (count : length words ≤ data_length c.blocksize c.blockcount)
  where
    pub data_most : data_length c.blocksize c.blockcount ≤ 128
    data_most = omega (arith, data_bound c.blocksize c.blockcount, (custom_range c fit).blockcount)

    -- the words over zeros, as many bytes of them as the fields say
    whole_words : (n : ℕ) (front : List ℕ) → n ≡ data_length c.blocksize c.blockcount → front ≡ words
        → take n (front ++ drop (length words) (replicate 128 0)) ≡ filled (data_length c.blocksize c.blockcount) words
    whole_words n front en e =
        ap₂ {C = List ℕ} take en (copied words (replicate 128 0) front (length words) refl e ∙ zeros_filled 128 words)
        ∙ filled_part words (data_length c.blocksize c.blockcount) 128 count data_most

    pub whole_long : (front : List ℕ) → front ≡ words
        → length (front ++ drop (length words) (replicate 128 0)) ≡ 128
    whole_long front e =
        length-append front (drop (length words) (replicate 128 0))
        ∙ ap₂ {C = ℕ} (λ x y. x + y) (ap length e) (length-drop (length words) (replicate 128 0))
        ∙ omega (arith, data_most, length-replicate {A = ℕ} 128 0)

    pub carried_made : (n : ℕ) (x : Option ℕ) (front p : List ℕ) → n ≡ data_length c.blocksize c.blockcount
        → front ≡ words → (let whole = front ++ drop (length words) (replicate 128 0) in
        Built (both (custom_fits c) (eqb (length (take n whole)) (data_length c.blocksize c.blockcount)))
        (blocks_length c.blocksize rev c.blockcount) (carried_data rev c (take n whole)) (replicate 144 0) x p)
        → p ≡ over (carried_data rev c words) (replicate 144 0)
    carried_made n x front p en e b =
        let whole = front ++ drop (length words) (replicate 128 0) in
        let d = data_length c.blocksize c.blockcount in
        let w : take n whole ≡ filled d words = whole_words n front en e in
        let l : length (take n whole) ≡ d = ap length w ∙ filled_long d words count in
        built_over _ _ (carried_data rev c (take n whole)) (replicate 144 0)
        (ap₂ both fit (eq-eqb (length (take n whole)) d l)) (omega (arith, blocks_fit rev c fit))
        (carried_long rev c (take n whole) l) p x b
        ∙ ap (λ (s : List ℕ). over s (replicate 144 0)) (ap (carried_data rev c) w ∙ filled_up rev c words count)

-- ---- the whole

module _ (key : Key) (m : Tam2) (words draws : List ℕ) (mode : ProtMode) (fit : custom_fits m.custom ≡ true)
    (count : length words ≤ data_length m.custom.blocksize m.custom.blockcount)
  where
    is_reply : (let s =
        sent mode key.enc
        (tam_block key.enc (two_bytes (tam2_constant m.rev mode)) draws m.ichallenge)
        (carried_data m.rev m.custom words) in
        s ++ mac_of mode key.mackey s ≡ tam2_in_mode key m words draws mode)
    unfolding tam2_in_mode with_mac tam2_body
    is_reply = refl

    -- p holds the data, r the block and the data as they are sent, z these with their MAC
    pub tam2_made_lem : (n result : ℕ) (y : Option ℕ) (p k a room r z : List ℕ)
        → n ≡ blocks_length m.custom.blocksize m.rev m.custom.blockcount
        → p ≡ over (carried_data m.rev m.custom words) (replicate 144 0)
        → k ≡ two_bytes (tam2_constant m.rev mode) → a ≡ tam_block key.enc k draws m.ichallenge
        → r ≡ over (sent mode key.enc a (take n p)) room → length r ≡ length room → reply_room ≤ length room
        → Built (mac_takes mode (16 + n)) (16 + n + mac_length mode)
        (with_mac key.mackey mode (take (16 + n) r)) r y z
        → result ≡ tam2_reply_length m.custom.blocksize m.rev m.custom.blockcount mode
        → (result ≡ length (tam2_in_mode key m words draws mode))
        × (z ≡ over (tam2_in_mode key m words draws mode) room)
    unfolding with_mac
    tam2_made_lem n result y p k a room r z en ep ek ea er lr hr bz eresult =
        let q = carried_data m.rev m.custom words in
        let most : n ≤ 144 = omega (arith, en, blocks_fit m.rev m.custom fit) in
        let lq : length q ≡ n = carried_length m.rev m.custom words count ∙ sym en in
        let eq : take n p ≡ q = ap (take n) ep ∙ over_taken q (replicate 144 0) n lq in
        let long : length (take n p) ≡ n = ap length eq ∙ lq in
        let whole : n % 16 ≡ 0 =
        ap (λ (i : ℕ). i % 16) en ∙ blocks_whole m.custom.blocksize m.rev m.custom.blockcount in
        let sixteen : length a ≡ 16 = ap length ea ∙ tam_block_long key.enc k draws m.ichallenge in
        let s = sent mode key.enc a (take n p) in
        let t : length s ≡ 16 + n =
        omega (
          arith,
          length-append a (pick (encrypts mode) (cbc_enc_aes a key.enc (take n p)) (take n p)),
          body_long mode a key.enc (take n p) (omega arith),
        ) in
        let same : s ++ mac_of mode key.mackey s ≡ tam2_in_mode key m words draws mode =
        ap₂ {C = List ℕ}
        (λ x y. sent mode key.enc x y ++ mac_of mode key.mackey
        (sent mode key.enc x y))
        (ea ∙ ap (λ (l : List ℕ). tam_block key.enc l draws m.ichallenge) ek) eq
        ∙ is_reply in
        let c = take (16 + n) r in
        let lc : length c ≡ 16 + n = length-take-le (16 + n) r (omega arith) in
        let ez : z ≡ over (c ++ mac_of mode key.mackey c) r =
        built_over _ _ (with_mac key.mackey mode c) r
        (whole_taken mode (16 + n) (omega arith) (omega arith)) (omega (arith, mac_most mode))
        (with_mac_long mode key.mackey c ∙ ap (λ (i : ℕ). i + mac_length mode) lc) z y bz in (
          eresult ∙ sym (tam2_long key m words draws mode count),
          ez ∙ front_finished s room r (16 + n) (mac_of mode key.mackey) t er
              ∙ ap (λ (l : List ℕ). over l room) same,
        )
