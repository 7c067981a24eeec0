use Rattle.std.proofs.Common.{◌≡◌, map, take}
use Rattle.cnf_core.specs.declared.lit.Lit.{Lit}
use Rattle.bit_blast.specs.Emitted.{numbers}
use Rattle.bit_blast.proofs.gates.all_lits.Given as goal

abbrev pub invariant-loop-bit : goal.invariant-loop-bit
invariant-loop-bit l = map (λ (x : Lit). x.number) l.lits.items ≡ numbers (take l.bit-index l.bits)
