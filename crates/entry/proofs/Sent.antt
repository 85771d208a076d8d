-- The parts of an IAM3 as it was sent, and what is opened of them.
use Rattle.std.specs.Prelude.{Some, None}
use mathlib.Core.Path.{◌≡◌, sym, ap, ◌∙◌}
use mathlib.Core.Bool.{Bool, true, false}
use mathlib.Core.List.{List, ◌++◌}
use Prim.Native.Nat.{ℕ, ◌+◌, ◌-◌, ◌/◌, ◌%◌, ◌≤◌}
use native.Mathlib.Omega.{arith}
use lib.ListN.{length, take, drop, get_or, length-drop}
use lib.Seq.{take-add, take_all, drop-drop, length-take-le}
use Rattle.ground.specs.Bytes.{Bytes}
use Rattle.ground.specs.Choice.{pick}
use Rattle.field.specs.Block.{first_block}
use Rattle.field.proofs.Block.{first_block_is}
use Rattle.modes.specs.Cbc.{cbc_dec_aes}
use Rattle.modes.specs.Room.{over}
use Rattle.sheet.specs.declared.Key.{Key}
use Rattle.frames.specs.declared.Custom.{Custom}
use Rattle.frames.specs.declared.Iam3.{Iam3}
use Rattle.frames.specs.Blocks.{blocks_length}
use Rattle.frames.specs.Fields.{size_of, custom_fits, select_custom}
use Rattle.frames.specs.Messages.{iam3_of}
use Rattle.frames.proofs.Bounds.{blocks_most}
use Rattle.frames.proofs.Range.{custom_range}
use Rattle.frames.specs.declared.ProtMode.{ProtMode}
use Rattle.frames.specs.Modes.{encrypts, prot_mode_of}
use Rattle.payload.proofs.Lengths.{blocks_whole, cbc_dec_long}
use Rattle.payload.proofs.Overs.{over_taken}
use Rattle.entry.specs.Opened.{sent_block, sent_data, opened_in, opened_data, proved_in, iam3_proof}
use Rattle.entry.specs.declared.Session.{Session}
use Rattle.offer.proofs.Bytes.{select_custom_fits}

-- ---- lengths

-- n bytes of a list from a place on, where they are there
pub part_long : (m : List ℕ) (a n : ℕ) → a + n ≤ length m → length (take n (drop a m)) ≡ n
part_long m a n h = length-take-le n (drop a m) (omega (arith, length-drop a m))

pub data_long : (c : Custom) (m : List ℕ) → 20 + blocks_length c.blocksize true c.blockcount ≤ length m
    → length (sent_data c m) ≡ blocks_length c.blocksize true c.blockcount
data_long c m h = part_long m 20 (blocks_length c.blocksize true c.blockcount) h

-- ---- the parts as the code takes them

-- the first block behind the fields
pub first_sent : (m : List ℕ) → 20 ≤ length m → first_block (take (length m - 4) (drop 4 m)) ≡ sent_block m
first_sent m h =
    ap first_block (take_all (length m - 4) (drop 4 m) (omega (arith, length-drop 4 m)))
    ∙ first_block_is (drop 4 m) (omega (arith, length-drop 4 m))

-- what stands behind a place, to the end
pub rest_sent : (m : List ℕ) (a : ℕ) → take (length m - a) (drop a m) ≡ drop a m
rest_sent m a = take_all (length m - a) (drop a m) (omega (arith, length-drop a m))

-- the bytes that the MAC covers
pub covered : (m : List ℕ) (n : ℕ) → take (20 + n - 4) (drop 4 m) ≡ take 16 (drop 4 m) ++ take n (drop 20 m)
covered m n =
    let e : 20 + n - 4 ≡ 16 + n = omega arith in
    ap (λ (k : ℕ). take k (drop 4 m)) e ∙ take-add 16 n (drop 4 m) ∙ ap (λ (l : List ℕ). take 16 (drop 4 m) ++ take n l)
    (drop-drop 16 4 m)

pub data_sent_lem : (m : List ℕ) (n : ℕ) → take (20 + n - 20) (drop 20 m) ≡ take n (drop 20 m)
data_sent_lem m n = let e : 20 + n - 20 ≡ n = omega arith in ap (λ (k : ℕ). take k (drop 20 m)) e

-- ---- what is opened

module _ (key : Key) (mode : ProtMode) (f : Iam3) (m : List ℕ) where
  pub opened_chained : encrypts mode ≡ true
      → opened_in key mode f m ≡ cbc_dec_aes (sent_block m) key.enc (sent_data f.custom m)
  unfolding opened_in
  opened_chained e = rw e

  pub opened_plain : encrypts mode ≡ false → opened_in key mode f m ≡ sent_data f.custom m
  unfolding opened_in
  opened_plain e = rw e

  pub opened_long : 20 + blocks_length f.custom.blocksize true f.custom.blockcount ≤ length m
      → length (opened_in key mode f m) ≡ blocks_length f.custom.blocksize true f.custom.blockcount
  unfolding opened_in
  opened_long h =
      let d = data_long f.custom m h in
      picked (blocks_length f.custom.blocksize true f.custom.blockcount)
      (cbc_dec_aes (sent_block m) key.enc (sent_data f.custom m)) (sent_data f.custom m)
      (encrypts mode)
      (cbc_dec_long (sent_block m) key.enc (sent_data f.custom m)
      (omega (arith, blocks_whole f.custom.blocksize true f.custom.blockcount)) ∙ d) d
    where
      picked : (n : ℕ) (a b : List ℕ) (t : Bool) → length a ≡ n → length b ≡ n → length (pick t a b) ≡ n
      picked n a b true p q = p
      picked n a b false p q = q

  -- what stands in the first bytes of a room, once it was opened there
  pub opened_front : 20 + blocks_length f.custom.blocksize true f.custom.blockcount ≤ length m
      → (room after : List ℕ) (n : ℕ) → n ≡ blocks_length f.custom.blocksize true f.custom.blockcount
      → after ≡ over (opened_in key mode f m) room
      → take n after ≡ opened_in key mode f m
  opened_front h room after n e q = ap (take n) q ∙ over_taken (opened_in key mode f m) room n (opened_long h ∙ sym e)

-- what the mode of the field decides
module _ (key : Key) (held : Session) (mode : ProtMode) (f : Iam3) (m : List ℕ)
    (named : prot_mode_of f.protmode ≡ Some mode) where
  pub opened_named : opened_data key f m ≡ opened_in key mode f m
  unfolding opened_data
  opened_named = rw named

  pub proof_named : iam3_proof key held f m ≡ proved_in key held mode f m
  unfolding iam3_proof
  proof_named = rw named

pub nothing_proved : (key : Key) (held : Session) (f : Iam3) (m : List ℕ) → prot_mode_of f.protmode ≡ None
    → iam3_proof key held f m ≡ false
unfolding iam3_proof
nothing_proved key held f m none = rw none

-- the fields of a message of bytes fit their bits
pub iam3_in_range : (m : List ℕ) → Bytes m → custom_fits (iam3_of m).custom ≡ true
unfolding iam3_of select_custom
iam3_in_range m h =
    select_custom_fits (size_of (get_or m 0 0 / 4 % 2)) (get_or m 1 0) (get_or m 2 0) (get_or m 3 0) (h 1) (h 2) (h 3)

-- and so there are no more than nine blocks
pub data_most : (f : Iam3) (m : List ℕ) → Bytes m → f ≡ iam3_of m → (n : ℕ)
    → n ≡ blocks_length f.custom.blocksize true f.custom.blockcount → n ≤ 144
data_most f m h e n q =
    let fit : custom_fits f.custom ≡ true = ap (λ (g : Iam3). custom_fits g.custom) e ∙ iam3_in_range m h in
    let most = blocks_most f.custom.blocksize true f.custom.blockcount
    (custom_range f.custom fit).blockcount in
    omega (arith, q, most)
