-- Locked words, and the right of a key record to a profile: the scope paper, "Memory" and number 4; ISO/IEC 29167-10,
-- clause 11.
use Rattle.std.specs.Prelude.{ℕ, zero, suc, ◌+◌, ◌/◌, ◌%◌, ◌^◌, Bool, false, ◌&&◌, ◌||◌, List, [], ◌∷◌, take, leb, ltb}
use Rattle.std.specs.Prelude.{eqb}
use Rattle.memory.specs.declared.Area.{Area}
use Rattle.memory.specs.declared.Area.TheVariants.{Identity}
use Rattle.memory.specs.declared.Block.{Block}
use Rattle.memory.specs.declared.Lock.{Lock}
use Rattle.memory.specs.Address.{same_area}

-- a lock of no words: how a place past the last lock is read
abbrev pub no_lock : Lock
no_lock = record { area = Identity; first = record { 0 = 0 }; words = 0 }

-- the lock holds the word `w` of the area `a`
unfoldable pub holds : Lock → Area → ℕ → Bool
holds lock a w = same_area lock.area a && (leb lock.first.0 w && ltb w (lock.first.0 + lock.words))

-- one of the `n` numbers from `i` on passes the test
unfoldable pub some : (ℕ → Bool) → ℕ → ℕ → Bool
some test i zero = false
some test i (suc n) = test i || some test (suc i) n

-- the lock holds some word of the block
unfoldable pub meets : Block → Lock → Bool
meets block lock = some (holds lock block.area) block.first.0 block.words

-- one of the locks does
unfoldable pub meets_any : Block → List Lock → Bool
meets_any block [] = false
meets_any block (lock ∷ locks) = meets block lock || meets_any block locks

-- number 4: some word of the block is locked, where the first `used` of the locks are in use
unfoldable pub some_locked : List Lock → ℕ → Block → Bool
some_locked locks used block = meets_any block (take used locks)

-- clause 11, Table 26: bit `profile` of MPI is 1, bit 0 being the least significant
unfoldable pub permitted : ℕ → ℕ → Bool
permitted mpi profile = eqb (mpi / 2 ^ profile % 2) 1
