use Rattle.std.proofs.Common.{◌≡◌, ◌∷◌, take}
use Rattle.bv_terms.proofs.keys.apply_key.Given as goal

abbrev pub invariant-loop-arg : goal.invariant-loop-arg
invariant-loop-arg l = l.key.items ≡ 2 ∷ l.function ∷ l.width ∷ take l.arg-index l.args
