-- `digits::digit` meets its contract.
use mathlib.Core.Path.{sym}
use native.Mathlib.Omega.{arith}
use Rattle.text.proofs.Values.{decimal_value, upper_value, lower_value, no_value}
use borrow.Author.Rules.{rules}
use Rattle.text.proofs.digits.digit.Goals as goal

pub returns-in-48-to-57 : goal.returns-in-48-to-57
returns-in-48-to-57 c = (decimal_value _ (search rules) (search rules), omega arith)

pub returns-in-65-to-70 : goal.returns-in-65-to-70
returns-in-65-to-70 c = (upper_value _ (search rules) (search rules), omega arith)

pub returns-in-97-to-102 : goal.returns-in-97-to-102
returns-in-97-to-102 c = (lower_value _ (search rules) (search rules), omega arith)

pub returns-in_default : goal.returns-in_default
returns-in_default c = sym (no_value _ (λ h l. omega arith) (λ h l. omega arith) (λ h l. omega arith))

pub returns-in_default-2 : goal.returns-in_default-2
returns-in_default-2 c = sym (no_value _ (λ h l. omega arith) (λ h l. omega arith) (λ h l. omega arith))

pub returns-in_default-3 : goal.returns-in_default-3
returns-in_default-3 c = sym (no_value _ (λ h l. omega arith) (λ h l. omega arith) (λ h l. omega arith))

pub returns-in_default-4 : goal.returns-in_default-4
returns-in_default-4 c = sym (no_value _ (λ h l. omega arith) (λ h l. omega arith) (λ h l. omega arith))
