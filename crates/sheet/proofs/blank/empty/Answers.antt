use borrow.Author.Rules.{rules}
use Rattle.sheet.specs.Limits.{profile_limit, lock_limit}
use Rattle.sheet.specs.Setups.{no_features, no_slot, no_lock, empty_terms}
use Rattle.sheet.proofs.blank.empty.Goals as goal

pub returns : goal.returns
unfolding empty_terms no_features no_slot no_lock profile_limit lock_limit
returns c = search rules
