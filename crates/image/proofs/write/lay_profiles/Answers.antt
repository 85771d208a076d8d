-- `write::lay_profiles` meets its contract.
use mathlib.Core.Path.{◌≡◌, refl, sym, ap, ◌∙◌}
use mathlib.Core.List.{◌++◌}
use Prim.Native.Nat.{◌+◌, ◌*◌, ◌≤◌}
use native.Mathlib.Omega.{arith}
use lib.ListN.{length, take}
use lib.Seq.{take_all}
use borrow.Author.Rules.{rules}
use Rattle.modes.specs.Room.{over}
use Rattle.payload.proofs.Overs.{over_none, over_behind}
use Rattle.payload.proofs.Rooms.{put_over}
use Rattle.sheet.specs.Limits.{profile_limit}
use Rattle.sheet.proofs.Back.{profile_length}
use Rattle.image.specs.Image.{slot_body, bodies}
use Rattle.image.proofs.Tables.{lay_more}
use Rattle.image.proofs.write.lay_profiles.Goals as goal

pub loop-i-init : goal.loop-i-init
unfolding bodies
loop-i-init c = (omega arith, refl, over_none 22 c.args.image.now (omega (arith, c.told-image)))

pub loop-i-preserved : goal.loop-i-preserved
loop-i-preserved c = let l = c.loop-i in
    let image = c.args.image.now in
    let p = c.put in
    let z = c.slot_body in
    let n : length z.result ≡ 6 = ap length z.ensures ∙ profile_length _ _ in
    let h : 22 ≤ length image = omega (arith, c.told-image) in
    let g = put_over (22 + 6 * l.i) z.result l.image (omega (arith, c.told-image, n)) _ _ p.ensures in (
      omega arith,
      search rules,
      lay_more slot_body 6 (λ s. profile_length _ s.profile) c.args.profiles _ image 22 h l.i _ z.result
          l.image _
          (omega (arith, c.well_formed.1.0.1.0.1)) refl z.ensures l.invariant.2 g,
    )

pub returns : goal.returns
unfolding profile_limit
returns c = let l = c.loop-i in
    let image = c.args.image.now in
    let xs = c.args.profiles in
    let e : take l.i xs ≡ xs = take_all l.i xs (omega (arith, c.well_formed.1.0.1.0.1)) in record {
      image_after = l.invariant.2
          ∙ ap (λ x. over (take 22 image ++ bodies slot_body x) image) e
          ∙ sym (over_behind 22 (bodies slot_body xs) image (omega (arith, c.told-image)));
      profiles_len = omega (arith, c.well_formed.1.0.1.0.1);
    }
