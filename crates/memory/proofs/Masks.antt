-- A bit of MPI.
use mathlib.Core.Path.{◌≡◌}
use mathlib.Core.Bool.{false}
use Prim.Native.Nat.{ℕ, ◌/◌, ◌^◌, ◌≤◌, ◌<◌}
use native.Mathlib.Nat.{div-eq_of_lt, lt_of_lt_of_le}
use lib.Pow.{pow_mono}
use Rattle.memory.specs.Rights.{permitted}

-- MPI has 16 bits: no profile of a higher number is permitted
pub permitted_high : (mpi profile : ℕ) → mpi < 65536 → 16 ≤ profile → false ≡ permitted mpi profile
unfolding permitted
permitted_high mpi profile h p =
    let e : mpi / 2 ^ profile ≡ 0 = div-eq_of_lt (lt_of_lt_of_le h (pow_mono p)) in
    simp e
