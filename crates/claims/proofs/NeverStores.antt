-- The tag that never stores, shut out: after an empty message, an IAM1 and an IAM3 the block holds the reader's words,
-- and these are others than stood there.
use mathlib.Core.Path.{◌≡◌, sym, ap, ap₂, ◌∙◌}
use mathlib.Core.List.{List, [], ◌∷◌}
use Prim.Native.Nat.{ℕ, zero, suc, ◌<◌}
use native.Mathlib.Omega.{arith}
use lib.Dec.{lit<}
use lib.ListN.{get_or, replicate, length-replicate, get_or-replicate}
use Rattle.ground.specs.Bytes.{Bytes, byte_at}
use Rattle.memory.specs.declared.Area.TheVariants.{Identity, User}
use Rattle.memory.specs.declared.Block.{Block}
use Rattle.memory.specs.Areas.{byte_count, window_of, stored_in}
use Rattle.memory.proofs.Stores.{window_stored}
use Rattle.frames.proofs.Asked.{asked_bytes, asked_some}
use Rattle.offer.specs.Records.{slot_named, block_asked}
use Rattle.tag.specs.Answers.{Answer, let_in, answer_with}
use Rattle.tag.specs.Plays.{Left}
use Rattle.claims.specs.Starts.{Start, setup_at, HasWritable}
use Rattle.claims.specs.ShutOut.{steps, NeverStores, ShutOut}
use Rattle.claims.proofs.Reached.{call_at, answer_at, reached, of_last}
use Rattle.claims.proofs.Taken.{nothing}
use Rattle.claims.proofs.Challenged.{iam1, iam1_leads, iam3, iam3_taken}

-- another byte
abbrev other : ℕ → ℕ
other zero = 1
other (suc n) = 0

other_byte : (n : ℕ) → other n < 256
other_byte zero = lit< tt
other_byte (suc n) = lit< tt

is_other : (n : ℕ) → n ≡ other n → ⊥
is_other zero e = omega arith
is_other (suc n) e = omega arith

many_bytes : (n k : ℕ) → k < 256 → Bytes (replicate n k)
many_bytes zero k h i = lit< tt
many_bytes (suc n) k h zero = h
many_bytes (suc n) k h (suc i) = many_bytes n k h i

module _ (s : Start) (w : HasWritable s) where
  abbrev block : Block
  block = block_asked (setup_at s).profiles w.custom

  -- as many bytes as the block has, and other ones
  abbrev there : ℕ
  there = byte_at (window_of s.identity s.user block) 0

  abbrev words : List ℕ
  words = replicate (byte_count block) (other there)

  some : 0 < byte_count block
  unfolding block_asked
  some = omega (arith, asked_some (slot_named (setup_at s).profiles w.custom.profile).profile w.custom)

  stored : answer_at (reached s (steps (nothing ∷ iam1 s w.holder ∷ []))) (iam3 s w words)
      ≡ answer_with (setup_at s) (let_in (call_at s (iam3 s w words)) 0
      (stored_in Identity block words s.identity) (stored_in User block words s.user))
  unfolding block_asked
  stored =
      ap (λ (t : Start). answer_at t (iam3 s w words)) (iam1_leads s w.holder w.iam1)
      ∙ iam3_taken s w words (many_bytes (byte_count block) (other there) (other_byte there))
      (length-replicate (byte_count block) (other there)
      ∙ sym (asked_bytes (slot_named (setup_at s).profiles w.custom.profile).profile w.custom))

pub never_stores : ShutOut HasWritable NeverStores
unfolding let_in
never_stores s w p says standard =
    let before = nothing ∷ iam1 s w.holder ∷ [] in
    let b = iam3 s w (words s w) in
    let same = of_last s p standard (steps before) b (λ (x : Left). (x.identity ≡ s.identity) × (x.user ≡ s.user))
    (says before b) in
    let i = sym (ap (λ (a : Answer). a.identity) (stored s w)) ∙ same.0 in
    let u = sym (ap (λ (a : Answer). a.user) (stored s w)) ∙ same.1 in
    let window = sym (ap₂ (λ (x y : List ℕ). window_of x y (block s w)) i u)
    ∙ window_stored (block s w) (words s w) s.identity s.user w.lies
    (length-replicate (byte_count (block s w)) (other (there s w))) in
    is_other (there s w) (ap (λ (l : List ℕ). get_or l 0 0) window
    ∙ get_or-replicate (byte_count (block s w)) 0 (other (there s w)) 0 (some s w))
