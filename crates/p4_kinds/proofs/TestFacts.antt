-- Tests joined by `and`.
use Rattle.std.proofs.Common.{◌≡◌, ◌&&◌, Bool, true, false, refl}

pub with_true : (a b : Bool) → b ≡ true → a ≡ (a && b)
with_true true true h = refl
with_true true false h = absurd cc
with_true false b h = refl

pub with_false : (a b : Bool) → b ≡ false → false ≡ (a && b)
with_false true true h = absurd cc
with_false true false h = refl
with_false false b h = refl

pub both_true : (a b c : Bool) → a ≡ true → b ≡ true → c ≡ (a && b && c)
both_true true true c h k = refl
both_true true false c h k = absurd cc
both_true false b c h k = absurd cc
