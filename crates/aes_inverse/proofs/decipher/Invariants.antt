use mathlib.Core.Path.{◌≡◌}
use lib.ListN.{length, take, drop}
use Prim.Native.Nat.{◌≤◌}
use Rattle.aes_inverse.specs.InvCipher.{inv_rounds}
use Rattle.aes_inverse.proofs.decipher.Given as goal

-- The keys that are left are the first of the middle ones, and that many rounds are left.
abbrev pub invariant-loop-k : goal.invariant-loop-k
invariant-loop-k l =
    let rest = l.k-iterator.iter.rest.now in
    record {
      few : length rest ≤ 9;
      keys : rest ≡ take (length rest) (take 9 (drop 1 l.fn.w));
      rounds : inv_rounds l.fn.w (length rest) l.s ≡ inv_rounds l.fn.w 9 l.initial.s;
    }
