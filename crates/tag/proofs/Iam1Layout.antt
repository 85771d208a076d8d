-- The reply to IAM1 (9.5.3).
use Rattle.std.specs.Prelude.{Ok}
use mathlib.Core.Path.{◌≡◌, refl}
use Rattle.sheet.specs.Setups.{Setup}
use Rattle.entry.specs.Given.{iam1_checked}
use Rattle.tag.specs.Answers.{Call, replied, if_fine, iam1_answer}

-- The challenge, which is all ten draws, and is what the tag holds then.
pub iam1_layout : (c : Call) (setup : Setup) → iam1_checked setup.keys c.message ≡ Ok tt
    → ((iam1_answer c setup.keys).reply ≡ c.draws) × ((iam1_answer c setup.keys).session.tchallenge ≡ c.draws)
unfolding iam1_answer if_fine replied
iam1_layout c setup e = (rw e refl, rw e refl)
