-- `write::made` meets its contract.
use mathlib.Core.Path.{◌≡◌, ap, ◌∙◌}
use mathlib.Core.List.{List, [], ◌∷◌, ◌++◌}
use Prim.Native.Nat.{ℕ, ◌/◌, ◌%◌}
use native.Mathlib.Omega.{arith}
use lib.ListN.{length, take, drop}
use Rattle.ground.specs.Bytes.{two_bytes}
use Rattle.modes.specs.Room.{over}
use Rattle.payload.proofs.Rooms.{put_over}
use Rattle.sheet.specs.KeyTable.{record_count}
use Rattle.image.proofs.Laid.{image_laid}
use Rattle.image.proofs.write.made.Goals as goal

pub returns : goal.returns
returns c = let t = c.lay_terms in
    let p = c.put in
    let q = c.put-2 in
    let table = c.args.table.now in
    let n = record_count table in
    let high : n / 256 % 256 ≡ n / 256 = omega (arith, c.requires.1) in
    let two : c.to_be_bytes.result ≡ two_bytes n =
    c.to_be_bytes.ensures ∙ ap (λ (x : ℕ). x ∷ n % 256 ∷ []) high in
    image_laid c.args.terms table t.new.image p.new.room q.new.room t.ensures.terms_len t.ensures.image_after
    (put_over 199 c.to_be_bytes.result t.new.image (omega (arith, ap length two)) _ _ p.ensures
    ∙ ap (λ (x : List ℕ). take 199 t.new.image ++ over x (drop 199 t.new.image)) two)
    (put_over 201 table p.new.room (omega (arith, c.requires.1)) _ _ q.ensures)
