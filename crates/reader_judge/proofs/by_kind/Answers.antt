-- `reader_judge::by_kind` meets its contract.
use mathlib.Core.Path.{refl}
use Rattle.reader_judge.proofs.Arms.{tam1_arm, tam2_arm, iam1_arm, empty_arm, mam1_arm}
use Rattle.reader_judge.proofs.Arms.{none_arm}
use Rattle.reader_judge.proofs.by_kind.Goals as goal

pub returns-in-Tam1 : goal.returns-in-Tam1
returns-in-Tam1 c = tam1_arm _ _ _ _ _ _ _ c.in-Tam1.is c.tam1_of.ensures
    c.tam1.ensures

pub returns-in-Tam2 : goal.returns-in-Tam2
returns-in-Tam2 c = tam2_arm _ _ _ _ _ _ _ c.in-Tam2.is c.tam2.ensures

pub returns-in-Iam1 : goal.returns-in-Iam1
returns-in-Iam1 c = iam1_arm _ _ _ _ _ _ c.in-Iam1.is c.iam1.ensures

pub returns-in-Iam2 : goal.returns-in-Iam2
returns-in-Iam2 c = empty_arm _ _ _ _ _ _ c.in-Iam2.is c.empty.ensures

pub returns-in-Mam1 : goal.returns-in-Mam1
returns-in-Mam1 c = mam1_arm _ _ _ _ _ _ _ c.in-Mam1.is c.mam1_of.ensures
    c.mam1.ensures

pub returns-in-Unsupported : goal.returns-in-Unsupported
returns-in-Unsupported c = none_arm _ _ _ _ _ _ c.in-Unsupported.is refl
