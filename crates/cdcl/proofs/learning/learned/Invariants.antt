use Rattle.std.proofs.Common.{◌≡◌, map, take}
use Rattle.cnf_core.specs.Literals.{opposite}
use Rattle.cnf_core.specs.Trails.{numbers}
use Rattle.cnf_core.specs.TrailViews.{trues}
use Rattle.cdcl.specs.Marks.{marked_literals}
use Rattle.cdcl.proofs.learning.learned.Given as goal

abbrev pub invariant-loop-place : goal.invariant-loop-place
invariant-loop-place l = numbers l.lits.items ≡ map opposite (marked_literals (take l.place l.analysis.marks.items) (take l.place (trues l.search.trail)))
