-- IAM3 from its parts, as they stand in the room: the data as they are sent, IResponse, and the whole.
use Rattle.std.specs.Prelude.{Option, Result}
use Rattle.modes.specs.declared.ChainingFault.{ChainingFault}
use mathlib.Core.Path.{◌≡◌, refl, sym, ap, ap₂, ◌∙◌}
use mathlib.Core.Bool.{Bool, true, false}
use mathlib.Core.List.{List, [], ◌++◌, append_assoc}
use Prim.Native.Nat.{ℕ, ◌+◌, ◌-◌, ◌%◌, ◌≤◌}
use native.Mathlib.Omega.{arith}
use lib.ListN.{length, take, drop, length-append, length-drop}
use lib.Seq.{take_all, take-append-le, drop-append-add, drop-drop, length-take-le, take_at}
use Rattle.ground.specs.Choice.{pick, implies}
use Rattle.field.specs.Block.{xor}
use Rattle.aes_inverse.specs.AesDec.{aes_dec}
use Rattle.aes_inverse.specs.InvCipher.{inv_cipher}
use Rattle.modes.specs.Blocks.{whole_blocks}
use Rattle.modes.specs.Cmac.{cmac96}
use Rattle.modes.specs.Room.{Into, chains, over}
use Rattle.modes.proofs.Rooms.{copied, enough, room_for_mac}
use Rattle.modes.proofs.Whole.{whole_count}
use Rattle.modes_inverse.specs.CbcInv.{cbc_enc_aes_inv}
use Rattle.frames.specs.declared.Custom.{Custom}
use Rattle.frames.specs.declared.Iam3.{Iam3}
use Rattle.frames.specs.Blocks.{blocks_length}
use Rattle.frames.specs.Built.{Built}
use Rattle.frames.specs.Fields.{select_bytes}
use Rattle.frames.specs.declared.ProtMode.{ProtMode}
use Rattle.frames.specs.Modes.{encrypts, has_mac}
use Rattle.frames.specs.Lengths.{mac_length, iam3_mac_at, iam3_length, message_room}
use Rattle.frames.specs.Messages.{iam3_head, select_fits}
use Rattle.frames.proofs.Bounds.{mac_bound}
use Rattle.frames.proofs.Range.{select_range}
use Rattle.frames.proofs.Shape.{iam3_head_lem}
use Rattle.payload.specs.Protected.{mac_takes, with_mac}
use Rattle.payload.proofs.Data.{blocks_fit}
use Rattle.payload.proofs.Lengths.{enc_joined, blocks_whole}
use Rattle.payload.proofs.Macs.{with_mac_long}
use Rattle.payload.proofs.Overs.{tail_back, over_behind, front_finished}
use Rattle.payload.proofs.Rooms.{built_over}
use Rattle.reader.specs.declared.Keys.{Keys}
use Rattle.reader_build.specs.Builds.{sent_data, iam3_response, iam3_whole}

-- ---- the data as they are sent

module _ (mode : ProtMode) (b : Bool) (enc a p room : List ℕ) (told : b ≡ encrypts mode) where
  pub data_chained : (after : List ℕ) (answer : Result Unit ChainingFault) → b ≡ true → length p % 16 ≡ 0
      → length p ≤ length room
      → Into (chains (length p) (length room)) (cbc_enc_aes_inv a enc p) room answer after
      → after ≡ over (sent_data enc mode a p) room
  unfolding sent_data
  data_chained after answer t w h i =
      i.leaves ∙ ap (λ (x : Bool). pick x (over (cbc_enc_aes_inv a enc p) room) room)
      (enough (length p) (length room) w h)
      ∙ ap (λ (x : Bool). over (pick x (cbc_enc_aes_inv a enc p) p) room) (sym t ∙ told)

  pub data_plain : (front : List ℕ) → b ≡ false → front ≡ p
      → front ++ drop (length p) room ≡ over (sent_data enc mode a p) room
  unfolding sent_data
  data_plain front f e = copied p room front (length p) refl e
      ∙ ap (λ (x : Bool). over (pick x (cbc_enc_aes_inv a enc p) p) room) (sym f ∙ told)

-- ---- lengths

dec_sixteen : (key b : List ℕ) → length (aes_dec key b) ≡ 16
unfolding aes_dec inv_cipher xor
dec_sixteen key b = refl

chained_long : (iv key s : List ℕ) → length s % 16 ≡ 0 → length (cbc_enc_aes_inv iv key s) ≡ length s
unfolding cbc_enc_aes_inv
chained_long iv key s e = enc_joined (aes_dec key) (dec_sixteen key) (whole_blocks s) iv ∙ omega (arith, whole_count s)

chosen_long : (b : Bool) (a enc p : List ℕ) → length p % 16 ≡ 0 → length (pick b (cbc_enc_aes_inv a enc p) p) ≡ length p
chosen_long true a enc p e = chained_long a enc p e
chosen_long false a enc p e = refl

pub data_sent_long : (mode : ProtMode) (enc a p : List ℕ) → length p % 16 ≡ 0
    → length (sent_data enc mode a p) ≡ length p
unfolding sent_data
data_sent_long mode enc a p = chosen_long (encrypts mode) a enc p

module _ (keys : Keys) (mode : ProtMode) (a p : List ℕ) (sixteen : length a ≡ 16) (whole : length p % 16 ≡ 0) where
  -- A and the data
  abbrev covered : List ℕ
  covered = a ++ sent_data keys.enc mode a p

  covered_long : length covered ≡ 16 + length p
  covered_long = omega (
    arith,
    length-append a (sent_data keys.enc mode a p),
    data_sent_long mode
        keys.enc a p whole,
  )

  pub response_long : length (iam3_response keys mode a p) ≡ 16 + length p + mac_length mode
  unfolding iam3_response
  response_long = with_mac_long mode keys.mackey covered ∙ ap (λ (k : ℕ). k + mac_length mode) covered_long

  -- ---- IResponse

  mac_taken : (n : ℕ) → n ≡ 16 + length p → mac_takes mode n ≡ true
  unfolding mac_takes
  mac_taken n e = ap (implies (has_mac mode)) (room_for_mac n 12 (omega arith) (omega arith) (omega arith))
      ∙ any (has_mac mode)
    where
      any : (b : Bool) → implies b true ≡ true
      any true = refl
      any false = refl

  module _ (room : List ℕ) (first : take 16 room ≡ a) (h : 28 + length p ≤ length room) where
    data_laid : (z : List ℕ) → z ≡ over (sent_data keys.enc mode a p) (take (length room - 16) (drop 16 room))
        → take 16 room ++ (z ++ drop (length room - 16) (drop 16 room)) ≡ over covered room
    data_laid z e =
        let x = sent_data keys.enc mode a p in
        tail_back 16 room x z e ∙ over_behind 16 x room (omega arith) ∙ ap (λ (l : List ℕ). over (l ++ x) room) first

    over_long : length (over covered room) ≡ length room
    over_long = omega (
      arith,
      covered_long,
      length-append covered (drop (length covered) room),
      length-drop
          (length covered) room,
    )

    pub response_laid : (n : ℕ) (z after : List ℕ) (answer : Option ℕ) → n ≡ 16 + length p
        → z ≡ over (sent_data keys.enc mode a p) (take (length room - 16) (drop 16 room))
        → (let r = take 16 room ++ (z ++ drop (length room - 16) (drop 16 room)) in
        Built (mac_takes mode n) (n + mac_length mode)
        (with_mac keys.mackey mode (take n r)) r answer after)
        → after ≡ over (iam3_response keys mode a p) room
    unfolding iam3_response with_mac
    response_laid n z after answer e f b =
        let r = take 16 room ++ (z ++ drop (length room - 16) (drop 16 room)) in
        let q : r ≡ over covered room = data_laid z f in
        let l : length r ≡ length room = ap length q ∙ over_long in
        let t : length (take n r) ≡ n = length-take-le n r (omega arith) in
        built_over (mac_takes mode n) (n + mac_length mode) (with_mac keys.mackey mode (take n r)) r
        (mac_taken n e) (omega (arith, mac_bound mode))
        (with_mac_long mode keys.mackey (take n r) ∙ ap (λ (k : ℕ). k + mac_length mode) t) after answer b
        ∙ front_finished covered room r n (λ s. pick (has_mac mode) (cmac96 keys.mackey s) [])
        (covered_long ∙ sym e) q

-- ---- the whole

-- the part behind a room's first k bytes made anew, where it covers what was put there before
made_anew : (h d room : List ℕ) (k : ℕ) → k ≤ length h → length h ≤ k + length d
    → take k (over h room) ++ over d (drop k (over h room)) ≡ over (take k h ++ d) room
made_anew h d room k l m =
    let j = k + length d - length h in
    let e : k + length d ≡ length h + j = omega arith in
    let t : length (take k h ++ d) ≡ k + length d = length-append (take k h) d
    ∙ ap (λ (i : ℕ). i + length d) (length-take-le k h l) in
    let rest : drop (length d) (drop k (over h room)) ≡ drop (length (take k h ++ d)) room =
    drop-drop (length d) k (over h room) ∙ ap (λ (i : ℕ). drop i (over h room)) e
    ∙ drop-append-add h (drop (length h) room) j ∙ drop-drop j (length h) room
    ∙ ap (λ (i : ℕ). drop i room) (sym e ∙ sym t) in
    ap₂ {C = List ℕ} (λ x y. x ++ (d ++ y)) (take-append-le k h (drop (length h) room) l) rest
    ∙ sym (append_assoc (take k h) d (drop (length (take k h ++ d)) room))

module _ (keys : Keys) (custom : Custom) (protmode : ℕ) (mode : ProtMode) (a p : List ℕ) (sixteen : length a ≡ 16)
    (blocks : length p ≡ blocks_length custom.blocksize true custom.blockcount) where
  -- the fields, and the first block
  abbrev head : Iam3
  head = record { rfu = 0; custom = custom; protmode = protmode; iresponse = a }

  pub whole_blocks_lem : length p % 16 ≡ 0
  whole_blocks_lem = ap (λ (k : ℕ). k % 16) blocks ∙ blocks_whole custom.blocksize true custom.blockcount

  pub whole_long : length (iam3_whole keys custom protmode mode a p) ≡ iam3_length custom.blocksize
      custom.blockcount mode
  unfolding iam3_whole iam3_length iam3_mac_at
  whole_long =
      let t : length (take 4 (iam3_head head)) ≡ 4 =
      length-take-le 4 (iam3_head head) (omega (arith, iam3_head_lem head sixteen)) in
      omega (
        arith,
        length-append (take 4 (iam3_head head))
            (iam3_response keys mode a p),
        response_long keys mode a p sixteen whole_blocks_lem,
      )

  module _ (room r : List ℕ) (answer : Option ℕ) (fit : select_fits 0 custom protmode ≡ true)
      (h : message_room ≤ length room)
      (b : Built (select_fits 0 custom protmode) 20 (iam3_head head) room answer r)
    where
      head_laid : r ≡ over (iam3_head head) room
      head_laid = built_over (select_fits 0 custom protmode) 20 (iam3_head head) room fit (omega arith)
          (iam3_head_lem head sixteen) r answer b

      -- the first block stands behind the fields
      pub block_first : take 16 (take (length r - 4) (drop 4 r)) ≡ a
      unfolding iam3_head select_bytes
      block_first =
          ap (take 16) (take_all (length r - 4) (drop 4 r) (omega (arith, length-drop 4 r)) ∙ ap (drop 4) head_laid)
          ∙ take_at a (drop (length (iam3_head head)) room) 16 sixteen

      -- and there is room for the rest of the longest message
      pub room_left : 28 + length p ≤ length (take (length r - 4) (drop 4 r))
      room_left =
          let s = iam3_head head in
          let l : length r ≡ length room = ap length head_laid
          ∙ omega (
            arith,
            length-append s (drop (length s) room),
            length-drop
                (length s) room,
            iam3_head_lem head sixteen,
          ) in
          let m = blocks_fit true custom (select_range 0 custom protmode fit).custom in
          let t = length-take-le (length r - 4) (drop 4 r) (omega (arith, length-drop 4 r)) in
          omega (arith, l, m, t)

      pub whole_laid : (z : List ℕ) → z ≡ over (iam3_response keys mode a p) (take (length r - 4) (drop 4 r))
          → take 4 r ++ (z ++ drop (length r - 4) (drop 4 r)) ≡ over (iam3_whole keys custom protmode mode a p) room
      unfolding iam3_whole
      whole_laid z e =
          let d = iam3_response keys mode a p in
          let n = iam3_head_lem head sixteen in
          tail_back 4 r d z e ∙ ap (λ (l : List ℕ). take 4 l ++ over d (drop 4 l)) head_laid
          ∙ made_anew (iam3_head head) d room 4 (omega arith)
          (omega (arith, response_long keys mode a p sixteen whole_blocks_lem))
