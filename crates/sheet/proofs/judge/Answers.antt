use Rattle.sheet.specs.Limits.{key_limit}
use Rattle.sheet.proofs.Verdicts.{judge_told}
use Rattle.sheet.proofs.judge.Goals as goal

pub returns : goal.returns
returns c =
    let told = judge_told key_limit c.args.rest.now c.args.gathered _ c.judge_in-finding.ensures in
    record { value = told.0; finding_value = told.1 }
