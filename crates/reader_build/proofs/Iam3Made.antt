-- IAM3 built: what it comes to once its data were laid out in the D blocks p.
use Rattle.std.specs.Prelude.{Ok, Option, Some, None}
use mathlib.Core.Path.{◌≡◌, refl, sym, ap, ap₂, ◌∙◌}
use mathlib.Core.Bool.{Bool, true, false}
use mathlib.Core.List.{List, []}
use Prim.Native.Nat.{ℕ, ◌≤◌}
use native.Mathlib.Omega.{arith}
use borrow.Author.Tests.{le-leb, eq-eqb}
use lib.Dec.{leb, eqb}
use lib.ListN.{length, take, length-take}
use Rattle.ground.specs.Choice.{pick, both}
use Rattle.modes.specs.Room.{over}
use Rattle.frames.specs.declared.Custom.{Custom}
use Rattle.frames.specs.Blocks.{data_length, blocks_length}
use Rattle.frames.specs.Built.{Built}
use Rattle.frames.specs.Constants.{iam3_constant, with_purpose}
use Rattle.frames.specs.Fields.{custom_fits}
use Rattle.frames.specs.Lengths.{message_room}
use Rattle.frames.specs.Messages.{select_fits}
use Rattle.frames.specs.Modes.{in_mode, prot_mode_of}
use Rattle.frames.specs.declared.ProtMode.{ProtMode}
use Rattle.frames.proofs.Joins.{built_front, unbuilt, as_built}
use Rattle.payload.specs.Data.{carried_data}
use Rattle.payload.proofs.Data.{blocks_fit, carried_long}
use Rattle.reader.specs.declared.Keys.{Keys}
use Rattle.reader_build.specs.Builds.{response, iam3_whole, iam3_in_mode, iam3_made, iam3_fits}
use Rattle.reader_build.specs.Makes.{Makes}
use Rattle.reader_build.proofs.Making.{decided, part_fits, parts_fit, part_count, part_select}

module _ (keys : Keys) (custom : Custom) (protmode purpose : ℕ) (words room p : List ℕ) (answer : Option ℕ)
    (large : length room ≡ 144)
    (part : part_fits keys custom protmode purpose (length words) ≡ true)
    (b : Built (both (custom_fits custom) (eqb (length words) (data_length custom.blocksize custom.blockcount)))
    (blocks_length custom.blocksize true custom.blockcount) (carried_data true custom words) room answer p)
  where
    count : length words ≡ data_length custom.blocksize custom.blockcount
    count = part_count keys custom protmode purpose (length words) part

    -- the answer is the blocks' length where Profile, Offset and BlockCount fit their bits
    fits : (t : Bool) → custom_fits custom ≡ t
        → both (both (custom_fits custom) (eqb (length words) (data_length custom.blocksize custom.blockcount)))
        (leb (blocks_length custom.blocksize true custom.blockcount) (length room)) ≡ custom_fits custom
    fits true e =
        ap₂ both (ap₂ both e (eq-eqb (length words) (data_length custom.blocksize custom.blockcount) count))
        (le-leb (blocks_length custom.blocksize true custom.blockcount) (length room)
        (omega (arith, blocks_fit true custom e))) ∙ sym e
    fits false e =
        ap (λ (x : Bool). both (both x (eqb (length words) (data_length custom.blocksize custom.blockcount)))
        (leb (blocks_length custom.blocksize true custom.blockcount) (length room))) e ∙ sym e

    carried_told : answer
        ≡ pick (custom_fits custom) (Some (blocks_length custom.blocksize true custom.blockcount)) None
    carried_told = b.says
        ∙ ap (λ (x : Bool). pick {A = Option ℕ} x (Some (blocks_length custom.blocksize true custom.blockcount)) None)
        (fits (custom_fits custom) refl)

    pub iam3_unfit : answer ≡ None → iam3_fits keys custom protmode purpose (length words) ≡ false
    iam3_unfit e = sym (parts_fit keys custom protmode purpose (length words))
        ∙ ap₂ both part (unbuilt (custom_fits custom) _ (sym e ∙ carried_told))

    module _ (n : ℕ) (yes : answer ≡ Some n) where
      custom_fit : custom_fits custom ≡ true
      custom_fit = (as_built (custom_fits custom) _ n (sym yes ∙ carried_told)).0

      all_fit : iam3_fits keys custom protmode purpose (length words) ≡ true
      all_fit = sym (parts_fit keys custom protmode purpose (length words)) ∙ ap₂ both part custom_fit

      pub fields_fit_lem : select_fits 0 custom protmode ≡ true
      fields_fit_lem = part_select keys custom protmode purpose (length words) part custom_fit

      pub blocks : n ≡ blocks_length custom.blocksize true custom.blockcount
      blocks = (as_built (custom_fits custom) _ n (sym yes ∙ carried_told)).1

      front : take (blocks_length custom.blocksize true custom.blockcount) p ≡ carried_data true custom words
      front =
          built_front (both (custom_fits custom)
          (eqb (length words) (data_length custom.blocksize custom.blockcount)))
          (blocks_length custom.blocksize true custom.blockcount) n (carried_data true custom words)
          room p (carried_long true custom words count) (rw yes at b)

      data_there : take n p ≡ carried_data true custom words
      data_there = ap (λ (k : ℕ). take k p) blocks ∙ front

      pub data_long : length (take n p) ≡ n
      data_long = ap length data_there ∙ carried_long true custom words count ∙ sym blocks

      pub blocks_there : n ≤ length p
      blocks_there = omega (arith, data_long, length-take n p)

      pub iam3_built : (mode : ProtMode) (irnd tchallenge k a out after : List ℕ) (result : ℕ)
          → prot_mode_of protmode ≡ Some mode
          → k ≡ with_purpose (iam3_constant mode) purpose → a ≡ response keys.enc k irnd tchallenge
          → message_room ≤ length out
          → (result ≡ length (iam3_whole keys custom protmode mode a (take n p)))
          × (after ≡ over (iam3_whole keys custom protmode mode a (take n p)) out)
          → Makes (iam3_fits keys custom protmode purpose (length words))
          (iam3_made keys custom protmode purpose irnd tchallenge words) out (Ok result) after
      unfolding iam3_in_mode iam3_made
      iam3_built mode irnd tchallenge k a out after result named ek ea h r =
          let e : iam3_whole keys custom protmode mode a (take n p)
          ≡ iam3_made keys custom protmode purpose irnd tchallenge words =
          ap₂ (iam3_whole keys custom protmode mode)
          (ea ∙ ap (λ (x : List ℕ). response keys.enc x irnd tchallenge) ek) data_there
          ∙ ap (λ (x : Option ProtMode).
          in_mode x (iam3_in_mode keys custom protmode purpose irnd tchallenge words) [])
          (sym named) in
          decided (iam3_fits keys custom protmode purpose (length words)) true
          (iam3_made keys custom protmode purpose irnd tchallenge words) out after (Ok result)
          (sym (ap₂ both all_fit (le-leb message_room (length out) h))) (ap Ok (r.0 ∙ ap length e))
          (r.1 ∙ ap (λ (x : List ℕ). over x out) e)
