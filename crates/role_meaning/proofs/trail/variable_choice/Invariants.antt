use Rattle.std.proofs.Common.{◌≡◌, drop, map}
use Rattle.refinement.specs.Trails.{var_choice}
use Rattle.role_meaning.specs.Views.{var_of}
use Rattle.role_meaning.proofs.trail.variable_choice.Given as goal

abbrev pub invariant-loop-variable : goal.invariant-loop-variable
invariant-loop-variable l = var_choice (map var_of (drop l.variable-index l.variables)) l.at l.name ≡ var_choice (map var_of l.variables) l.at l.name
