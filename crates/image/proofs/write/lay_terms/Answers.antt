-- `write::lay_terms` meets its contract.
use mathlib.Core.Path.{◌≡◌, ap, ◌∙◌}
use mathlib.Core.List.{List, [], ◌∷◌, ◌++◌}
use Prim.Native.Nat.{ℕ}
use native.Mathlib.Omega.{arith}
use lib.ListN.{length, take, drop}
use Rattle.modes.specs.Room.{over}
use Rattle.payload.proofs.Rooms.{put_over}
use Rattle.sheet.specs.Limits.{lock_limit}
use Rattle.sheet.proofs.Back.{features_length, sizes_length}
use Rattle.image.proofs.Laid.{terms_laid, terms_length}
use Rattle.image.proofs.write.lay_terms.Goals as goal

pub overflow_cast-count : goal.overflow_cast-count
unfolding lock_limit
overflow_cast-count c = omega (arith, c.requires)

pub returns : goal.returns
returns c =
    let t = c.args.terms in
    let room = c.args.image.now in
    let slots = c.lay_profiles.ensures.profiles_len in
    let locks = c.lay_locks.ensures.table_len in
    let f = c.features_body in
    let z = c.sizes_body in
    let k : length f.result ≡ 2 = ap length f.ensures ∙ features_length _ in
    let l : length z.result ≡ 4 = ap length z.ensures ∙ sizes_length _ in
    let r = c.put.new.room in
    let s = c.put-2.new.room in
    let u = c.lay_profiles.new.image in
    let v = c.put-3.new.room in
    let long = c.told-image in
    record {
      image_after = terms_laid t slots locks room r s u v _ (omega (arith, long))
          (put_over 16 f.result room (omega (arith, k, long)) _ _ c.put.ensures
          ∙ ap (λ (x : List ℕ). take 16 room ++ over x (drop 16 room)) f.ensures)
          (put_over 18 z.result r (omega (arith, l, long)) _ _ c.put-2.ensures
          ∙ ap (λ (x : List ℕ). take 18 r ++ over x (drop 18 r)) z.ensures)
          c.lay_profiles.ensures.image_after
          (put_over 118 (t.locks.count ∷ []) u (omega (arith, long)) _ _ c.put-3.ensures)
          c.lay_locks.ensures.image_after;
      terms_len = terms_length t slots locks;
    }
