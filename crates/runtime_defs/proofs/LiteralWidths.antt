-- Widths of declarations.
use Rattle.std.proofs.Common.{ℕ, zero, suc, ◌<◌, ◌≤◌, ◌^◌, List, [], ◌∷◌, length, slice_index, arith}
use Rattle.std.proofs.Math.Pow.{pow_mono}
use Rattle.runtime_defs.specs.Made.{IsWidth}
use Rattle.runtime_defs.specs.Places.{AllDeclared}

-- one of them
pub declared-at : (ws : List ℕ) (i : ℕ) → AllDeclared ws → i < length ws → IsWidth (slice_index ws i)
declared-at [] i h l = absurd (omega (arith, l))
declared-at (v ∷ ws) zero h l = (h.0, h.1)
declared-at (v ∷ ws) (suc i) h l = declared-at ws i h.2 (omega (arith, l))

pub one-fits : (w : ℕ) → 1 ≤ w → 1 < 2 ^ w
one-fits w h = let m : 2 ^ 1 ≤ 2 ^ w = pow_mono {i = 1} {j = w} h in omega (arith, m)
