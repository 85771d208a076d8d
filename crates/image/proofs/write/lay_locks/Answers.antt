-- `write::lay_locks` meets its contract.
use mathlib.Core.Path.{◌≡◌, refl, sym, ap, ◌∙◌}
use mathlib.Core.List.{◌++◌}
use Prim.Native.Nat.{◌+◌, ◌*◌, ◌≤◌}
use native.Mathlib.Omega.{arith}
use lib.ListN.{length, take}
use lib.Seq.{take_all}
use borrow.Author.Rules.{rules}
use Rattle.modes.specs.Room.{over}
use Rattle.payload.proofs.Overs.{over_none, over_behind}
use Rattle.payload.proofs.Rooms.{put_over}
use Rattle.sheet.specs.Limits.{lock_limit}
use Rattle.sheet.specs.Writer.{lock_body}
use Rattle.sheet.proofs.Back.{lock_length}
use Rattle.image.specs.Image.{bodies}
use Rattle.image.proofs.Tables.{lay_more}
use Rattle.image.proofs.write.lay_locks.Goals as goal

pub loop-i-init : goal.loop-i-init
unfolding bodies
loop-i-init c = (omega arith, refl, over_none 119 c.args.image.now (omega (arith, c.told-image)))

pub loop-i-preserved : goal.loop-i-preserved
loop-i-preserved c = let l = c.loop-i in
    let image = c.args.image.now in
    let p = c.put in
    let z = c.lock_body in
    let n : length z.result ≡ 5 = ap length z.ensures ∙ lock_length _ in
    let h : 119 ≤ length image = omega (arith, c.told-image) in
    let g = put_over (119 + 5 * l.i) z.result l.image (omega (arith, c.told-image, n)) _ _ p.ensures in (
      omega arith,
      search rules,
      lay_more lock_body 5 lock_length c.args.table _ image 119 h l.i _ z.result l.image _
          (omega (arith, c.well_formed.1.0.1.0.1)) refl z.ensures l.invariant.2 g,
    )

pub returns : goal.returns
unfolding lock_limit
returns c = let l = c.loop-i in
    let image = c.args.image.now in
    let xs = c.args.table in
    let e : take l.i xs ≡ xs = take_all l.i xs (omega (arith, c.well_formed.1.0.1.0.1)) in record {
      image_after = l.invariant.2
          ∙ ap (λ x. over (take 119 image ++ bodies lock_body x) image) e
          ∙ sym (over_behind 119 (bodies lock_body xs) image (omega (arith, c.told-image)));
      table_len = omega (arith, c.well_formed.1.0.1.0.1);
    }
