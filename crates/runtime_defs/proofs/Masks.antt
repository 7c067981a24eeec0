-- Ones in all bits of a number.
use Rattle.std.proofs.Common.{◌≡◌, ℕ, ◌-◌, ◌/◌, ◌%◌, ◌^◌, ◌<◌, ◌≤◌, arith, pow_mono, ap, ◌∙◌}
use Rattle.std.proofs.Math.Nat.{mod-eq_of_lt}
use Rattle.std.proofs.lemmas.Nat.Bits.{ones_shr}

pub ones_are : (w : ℕ) → w ≤ 64 → (2 ^ 64 - 1) / 2 ^ (64 - w) ≡ 2 ^ w - 1
ones_are w h =
    let d : 64 - (64 - w) ≡ w = omega arith in
    ones_shr 64 (64 - w) (omega arith) ∙ ap (λ k. 2 ^ k - 1) d

-- a number of at most 64 bits stays itself in 64 bits
pub narrow_value : (n w : ℕ) → w ≤ 64 → n < 2 ^ w → n % 2 ^ 64 ≡ n
narrow_value n w h l =
    let m : 2 ^ w ≤ 2 ^ 64 = pow_mono h in
    mod-eq_of_lt (omega (arith, l, m))
