-- `write::keep` meets its contract.
use mathlib.Core.Path.{◌∙◌}
use mathlib.Core.List.{◌∷◌, ◌++◌}
use Rattle.modes.specs.Room.{over}
use Rattle.image.proofs.Laid.{session_kept}
use Rattle.image.proofs.write.keep.Goals as goal

pub returns : goal.returns
returns c =
    let t = c.copy_from_slice.ensures in
    let i = c.copy_from_slice-2.ensures in
    session_kept _ _ _ _ c.args.image.now c.told-image t.len i.len
    ∙ (λ j. over (c.state_number.ensures j ∷ c.args.session.keyid ∷ t.after j ++ i.after j) c.args.image.now)
