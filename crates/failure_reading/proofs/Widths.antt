-- Numbers of 64 bits fit each width that is as large.
use Rattle.std.proofs.Common.{◌↔◌, ℕ, ◌<◌, ◌≤◌, ◌^◌, IsTrue, nat_le, le-leb, arith}
use Rattle.std.proofs.Math.Pow.{pow_mono}

pub wide : (w n : ℕ) → 64 ≤ w → n < 2 ^ 64 → IsTrue (nat_le 64 w) ↔ n < 2 ^ w
wide w n l h = let m : 2 ^ 64 ≤ 2 ^ w = pow_mono {i = 64} {j = w} l in ((λ _. omega (arith, m, h)), (λ _. le-leb 64 w l))
