use Rattle.std.proofs.Common.{◌≡◌, ◌||◌, take, true}
use Rattle.cocoon_num.specs.Lists.{each}
use Rattle.cnf_core.specs.Deriving.{is_false}
use Rattle.cnf_core.specs.Literals.{same}
use Rattle.cnf_core.specs.Trails.{numbers}
use Rattle.cnf_core.specs.TrailViews.{trues}
use Rattle.cdcl.proofs.search.Search.find_open.Given as goal

abbrev pub invariant-loop-place : goal.invariant-loop-place
invariant-loop-place l = each (λ m. same l.other.number m || is_false (trues l.self.trail) m) (numbers (take l.place l.lits)) ≡ true
