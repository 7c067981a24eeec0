use Rattle.std.proofs.Common.{◌≡◌, ◌||◌, ℕ, drop, map}
use Rattle.cocoon_syntax.specs.TreeOf.{expr_of, exprs_of}
use Rattle.form_rules.specs.Following as follow
use Rattle.form_rules.specs.Following.{Holding, at_choice, names_of}
use Rattle.form_rules.specs.Steps.{any_alone}
use Rattle.form_rules.proofs.value_places.note_wholes.Given as goal

abbrev pub invariant-loop-expr : goal.invariant-loop-expr
invariant-loop-expr l = (c : ℕ) (s : Holding) → (any_alone c s l.places.items || follow.any_alone (at_choice c (names_of l.scope)) s (exprs_of (map expr_of (drop l.expr-index l.exprs)))) ≡ (any_alone c s l.fn.places.items || follow.any_alone (at_choice c (names_of l.scope)) s (exprs_of (map expr_of l.exprs)))
