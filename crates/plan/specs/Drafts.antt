-- The reader's messages in an exchange, by the method that the trainee picked.
use Rattle.std.specs.Prelude.{ℕ, Bool, true, false, List, [], length}
use Rattle.ground.specs.Choice.{both}
use Rattle.frames.specs.Fields.{custom_fits}
use Rattle.reader.specs.Own.{mode_fits}
use Rattle.reader_build.specs.Builds.{purpose_fits, iam3_fits, tam1_made, tam2_made, iam1_made, mam1_made, iam2_made}
use Rattle.reader_build.specs.Builds.{mam2_made, iam3_made}
use Rattle.plan.specs.declared.Method.{Method}
use Rattle.plan.specs.declared.Method.TheVariants.{Tam1, Tam2, Iam2, Iam3, Mam}
use Rattle.plan.specs.declared.Plan.{Plan}

-- A message, and whether what it says is fit to be sent.
pub record Draft : Type 0 where
  pub fit : Bool
  pub message : List ℕ

abbrev pub draft : Bool → List ℕ → Draft
draft fit message = record { fit = fit; message = message }

-- The message that opens the exchange (9.4.2, 9.4.5, 9.5.2, 9.6.2).
unfoldable pub opening : Plan → Method → Draft
opening p Tam1 = draft true (tam1_made p.keyid p.ichallenge)
opening p Tam2 =
    draft (both (mode_fits p.keys p.protmode) (custom_fits p.custom))
    (tam2_made p.keyid p.ichallenge p.rev p.custom p.protmode)
opening p Iam2 = draft true (iam1_made p.keyid)
opening p Iam3 = draft true (iam1_made p.keyid)
opening p Mam = draft true (mam1_made p.keyid p.ichallenge)

-- The message that answers the tag's challenge (9.5.5, 9.5.8, 9.6.5), with the words of an IAM3. TAM has none.
unfoldable pub closing : Plan → List ℕ → List ℕ → Method → Draft
closing p words tchallenge Tam1 = draft false []
closing p words tchallenge Tam2 = draft false []
closing p words tchallenge Iam2 =
    draft (purpose_fits p.purpose) (iam2_made p.keys p.purpose p.irnd tchallenge)
closing p words tchallenge Iam3 =
    draft (iam3_fits p.keys p.custom p.protmode p.purpose (length words))
    (iam3_made p.keys p.custom p.protmode p.purpose p.irnd tchallenge words)
closing p words tchallenge Mam =
    draft (purpose_fits p.purpose) (mam2_made p.keys p.purpose p.ichallenge tchallenge)
