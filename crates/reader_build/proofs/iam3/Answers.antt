-- `reader_build::iam3` meets its contract.
use mathlib.Core.Path.{refl, sym, ◌∙◌}
use Rattle.std.proofs.lemmas.Result.{err_from_is_err_and}
use Rattle.ground.proofs.Told.{said}
use Rattle.reader_build.specs.Builds.{iam3_fits}
use Rattle.reader_build.proofs.Making.{let_in, left_out, unfit, part_unfit, no_mode}
use Rattle.reader_build.proofs.Iam3Made.{iam3_unfit, fields_fit_lem, blocks, blocks_there, data_long, iam3_built}
use Rattle.reader_build.proofs.iam3.Goals as goal

pub returns-in_err-taken : goal.returns-in_err-taken
returns-in_err-taken c =
    let a = c.args in
    let p = err_from_is_err_and c.from_residual.result c.from_residual.ensures.1 in
    rw (p.1, p.2) (left_out _ _ _ _ _ _
    (λ e. part_unfit a.keys a.custom a.protmode a.purpose _ (said c.iam3_fits.ensures e))
    c.taken.ensures c.in_err-taken.was)

pub returns-in_default : goal.returns-in_default
unfolding iam3_fits
returns-in_default c =
    unfit _ _ _ (rw (no_mode c.args.keys c.args.protmode (sym c.prot_mode.ensures ∙ c.in_default.is)))

pub returns-in_default-carried_into : goal.returns-in_default-carried_into
returns-in_default-carried_into c =
    let asked = let_in _ _ _ _ c.taken.ensures c.in_ok-taken.was in
    unfit _ _ _ (iam3_unfit c.args.keys c.args.custom c.args.protmode c.args.purpose
    c.args.words.now _ _ _ refl (said c.iam3_fits.ensures asked.0) c.carried_into.ensures c.in_default-carried_into.is)

pub slice_bounds-blocks-end : goal.slice_bounds-blocks-end
slice_bounds-blocks-end c =
    let a = c.args in
    let asked = let_in _ _ _ _ c.taken.ensures c.in_ok-taken.was in
    blocks_there a.keys a.custom a.protmode a.purpose a.words.now _ _ _ refl (said c.iam3_fits.ensures asked.0)
    c.carried_into.ensures _ c.in-Some-carried_into.is

pub iam3_whole-requires : goal.iam3_whole-requires
iam3_whole-requires c =
    let a = c.args in
    let asked = let_in _ _ _ _ c.taken.ensures c.in_ok-taken.was in
    let part = said c.iam3_fits.ensures asked.0 in
    let b = c.carried_into.ensures in
    let yes = c.in-Some-carried_into.is in (
      fields_fit_lem a.keys a.custom a.protmode a.purpose a.words.now _ _ _ refl part b _ yes,
      data_long a.keys a.custom a.protmode a.purpose a.words.now _ _ _ refl part b _ yes
          ∙ blocks a.keys a.custom a.protmode a.purpose a.words.now _ _ _ refl part b _ yes,
      asked.1,
    )

pub returns : goal.returns
returns c =
    let a = c.args in
    let asked = let_in _ _ _ _ c.taken.ensures c.in_ok-taken.was in
    iam3_built a.keys a.custom a.protmode a.purpose a.words.now _ _ _ refl (said c.iam3_fits.ensures asked.0)
    c.carried_into.ensures _ c.in-Some-carried_into.is _ _ _ _ _ _ _ _
    (sym c.prot_mode.ensures ∙ c.in-Some.is)
    c.iam3_constant.ensures c.response-a.ensures asked.1 c.iam3_whole.ensures
