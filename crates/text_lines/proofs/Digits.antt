-- Values of few digits are small.
use Rattle.std.specs.Prelude.{ℕ, ◌*◌, ◌^◌, ◌<◌, ◌≤◌}
use Rattle.std.proofs.Common.{arith}
use Rattle.std.proofs.Math.Nat.{pow-le-pow_right}

-- so many digits are few enough for one more
pub one_more : (value i : ℕ) → value < 10 ^ i → i < 20 → value * 10 < 10 ^ 20
one_more value i h few =
    let within : i ≤ 19 = omega (arith, few) in
    let most : 10 ^ i ≤ 10 ^ 19 = pow-le-pow_right (omega arith) within in
    omega (arith, h, most)
