use mathlib.Core.Path.{refl, ap, ◌∙◌}
use Prim.Native.Nat.{◌+◌, ◌*◌, ◌/◌, ◌%◌}
use lib.ListN.{get_or}
use Rattle.std.proofs.Common.{rules, tests}
use Rattle.field.proofs.Arrays.{array_bytes}
use Rattle.field.proofs.Made.{made}
use Rattle.aes.specs.Cipher.{mix_columns, mixed_byte}
use Rattle.aes_inverse.specs.InvCipher.{inv_mix_columns, unmixed_byte}
use Rattle.aes_inverse.proofs.Unmixing.{raised, unmixed_column}
use Rattle.aes_inverse.proofs.inv_mix_columns.Goals as goal

pub returns : goal.returns
unfolding mix_columns mixed_byte inv_mix_columns unmixed_byte
returns c =
    let s = c.args.s in
    let h = array_bytes 16 s _ c.well_formed.0 in
    c.mix_columns.ensures
    ∙ ap mix_columns (made (λ i. raised (get_or s i 0) (get_or s (4 * (i / 4) + (i + 2) % 4) 0)) 16
    (λ i y q lt k. search (rules, tests)) c.from_fn.ensures.items)
    ∙ unmixed_column (get_or s 0 0) (get_or s 1 0) (get_or s 2 0) (get_or s 3 0) _ _ (h 0) (h 1) (h 2) (h 3)
    (unmixed_column (get_or s 4 0) (get_or s 5 0) (get_or s 6 0) (get_or s 7 0) _ _ (h 4) (h 5) (h 6) (h 7)
    (unmixed_column (get_or s 8 0) (get_or s 9 0) (get_or s 10 0) (get_or s 11 0) _ _ (h 8) (h 9) (h 10) (h 11)
    (unmixed_column (get_or s 12 0) (get_or s 13 0) (get_or s 14 0) (get_or s 15 0) _ _ (h 12) (h 13) (h 14) (h 15)
    refl)))
