-- What a tag holds fits an image, from power-up on: its challenges have their lengths, and at rest nothing is held.
use Rattle.std.specs.Prelude.{Result}
use mathlib.Core.Path.{◌≡◌, refl, ap, ◌∙◌, subst}
use mathlib.Core.Bool.{Bool, true, false}
use Prim.Native.Nat.{ℕ, ◌-◌}
use lib.Dec.{eqb}
use borrow.Author.Tests.{eqb-true}
use lib.ListN.{length, length-drop}
use Rattle.octets.specs.Parts.{bytes_from}
use Rattle.octets.specs.Alike.{all_zero}
use Rattle.octets.proofs.Parts.{bytes_length}
use Rattle.frames.specs.declared.Kind.{Kind}
use Rattle.frames.specs.declared.Kind.TheVariants.{Tam1, Tam2, Iam1, Iam2, Iam3, Mam1, Mam2, Unsupported}
use Rattle.frames.specs.Kinds.{kind_of}
use Rattle.frames.specs.Messages.{mam1_of}
use Rattle.offer.specs.declared.TagFault.{TagFault}
use Rattle.offer.specs.declared.TagFault.TheVariants.{NotSupported, BenchFault}
use Rattle.offer.specs.Judged.{lending_checks}
use Rattle.offer.proofs.Lines.{fails}
use Rattle.entry.specs.Sessions.{cleared, entered}
use Rattle.tag.specs.States.{KeyedTag, at_rest}
use Rattle.tag.specs.Answers.{Effect, Call, refused, replied, let_in, tam1_answer, tam2_answer, iam1_answer}
use Rattle.tag.specs.Answers.{iam2_answer}
use Rattle.tag.specs.Answers.{iam3_answer, mam1_answer, mam2_answer, by_kind, of_lending, effect_of, answer_of}
use Rattle.tag.proofs.Cases.{fine_case, effect_case}
use Rattle.image.specs.Image.{rests}
use Rattle.image.specs.Kept.{Fits}

pub cleared_fits : Fits cleared
unfolding cleared rests at_rest all_zero
cleared_fits = record { tchallenge = refl; ichallenge = refl; rest = refl }

entered_fits : Fits entered
unfolding entered rests at_rest all_zero
entered_fits = record { tchallenge = refl; ichallenge = refl; rest = refl }

module _ (c : Call) where
  -- with ten draws
  abbrev Of : Effect → Type 0
  Of e = length c.draws ≡ 10 → Fits e.session

  refused_fits : (f : TagFault) → Of (refused c f cleared)
  unfolding refused
  refused_fits f d = cleared_fits

  module _ (tag : KeyedTag) (h : Fits tag.session) where
    kind_fits : (k : Kind) → Of (by_kind c tag.setup tag.session k)
    unfolding by_kind tam1_answer tam2_answer iam1_answer iam2_answer iam3_answer mam1_answer mam2_answer replied let_in
        mam1_of rests at_rest
    kind_fits Tam1 = fine_case c Of refused_fits _ _ (λ d. cleared_fits)
    kind_fits Tam2 = fine_case c Of refused_fits _ _ (λ d. cleared_fits)
    kind_fits Iam1 =
        fine_case c Of refused_fits _ _ (λ d. record { tchallenge = d; ichallenge = refl; rest = refl })
    kind_fits Iam2 = fine_case c Of refused_fits _ _ (λ d. entered_fits)
    kind_fits Iam3 = fine_case c Of refused_fits _ _ (λ d. entered_fits)
    kind_fits Mam1 =
        fine_case c Of refused_fits _ _
        (λ d. record {
          tchallenge = d;
          ichallenge = length-drop 6 (bytes_from c.message 2 10)
              ∙ ap (λ (n : ℕ). n - 6) (bytes_length c.message 2 10);
          rest = refl;
        })
    kind_fits Mam2 = fine_case c Of refused_fits _ _ (λ d. entered_fits)
    kind_fits Unsupported = refused_fits NotSupported

    ten_drawn : Of (effect_of c tag)
    unfolding refused
    ten_drawn = effect_case c Of refused_fits tag (λ f d. h) (λ first rest e o t. kind_fits (kind_of first))

    -- any other number of draws is number 7, and the session stays
    not_ten : eqb (length c.draws) 10 ≡ false → Fits (answer_of c tag).tag.session
    unfolding effect_of lending_checks refused
    not_ten e =
        subst (λ (v : Result Unit TagFault). Fits (of_lending c tag.setup tag.session v).session)
        (fails BenchFault _ e) h

    by_draws : (b : Bool) → eqb (length c.draws) 10 ≡ b → Fits (answer_of c tag).tag.session
    by_draws true e = ten_drawn (eqb-true _ _ e)
    by_draws false e = not_ten e

    pub answer_fits : Fits (answer_of c tag).tag.session
    answer_fits = by_draws (eqb (length c.draws) 10) refl
