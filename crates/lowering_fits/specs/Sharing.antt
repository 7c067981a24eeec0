-- Cited by the law `networks_share`: all switches of a design run one program, so those of two of them give each, and what is
-- made for one is made for all.
use Rattle.std.specs.Prelude.{◌≡◌, ℕ}
use Rattle.lowering.specs.Whole.{SwitchRole}
use Rattle.lowering.specs.SwitchProgram.{switch_made, switch_program}
use Rattle.shared_net.specs.Merging.{merged}

-- where the programs with the numbers 0 and 1 differ, and only there, each program has its own number
pub record HasOneProgram (r : SwitchRole) : Type 0 where
  pub program : (s : ℕ) → merged s (switch_program r 0) (switch_program r 1) ≡ switch_program r s
  pub made : (s : ℕ) → switch_made r s ≡ switch_made r 0
