use Rattle.sheet.specs.Judgement.{too_many}
use Rattle.sheet.specs.Limits.{key_limit, profile_limit, lock_limit}
use Rattle.sheet.proofs.kinds.too_many.Goals as goal

pub returns-in-KeyRecord : goal.returns-in-KeyRecord
unfolding too_many key_limit
returns-in-KeyRecord c = rw c.in-KeyRecord.is

pub returns-in-ProfileRecord : goal.returns-in-ProfileRecord
unfolding too_many profile_limit
returns-in-ProfileRecord c = rw c.in-ProfileRecord.is

pub returns-in-LockRecord : goal.returns-in-LockRecord
unfolding too_many lock_limit
returns-in-LockRecord c = rw c.in-LockRecord.is
