use Rattle.std.proofs.Common.{◌≡◌, ◌++◌, drop, map}
use Rattle.cocoon_syntax.specs.TreeOf.{expr_of, exprs_of}
use Rattle.refinement.specs.Trails.{exprs_choices}
use Rattle.role_meaning.specs.Views.{marks_at}
use Rattle.role_meaning.proofs.trail.exprs_choices.Given as goal

abbrev pub invariant-loop-expr : goal.invariant-loop-expr
invariant-loop-expr l = l.choices.items ++ exprs_choices (marks_at l.trail) (exprs_of (map expr_of (drop l.expr-index l.exprs))) ≡ exprs_choices (marks_at l.trail) (exprs_of (map expr_of l.exprs))
