use Rattle.std.proofs.Common.{◌≡◌, ◌||◌, ℕ, drop, map}
use Rattle.cocoon_syntax.specs.TreeOf.{expr_of, exprs_of}
use Rattle.form_rules.specs.Following.{Holding, any_mentions, at_choice, names_of}
use Rattle.form_rules.specs.Steps.{any_within}
use Rattle.form_rules.proofs.value_places.+note.Given as goal

abbrev pub invariant-note_exprs-loop-expr : goal.invariant-note_exprs-loop-expr
invariant-note_exprs-loop-expr l = (c : ℕ) (s : Holding) → (any_within c s l.places.items || any_mentions (at_choice c (names_of l.scope)) s (exprs_of (map expr_of (drop l.expr-index l.exprs)))) ≡ (any_within c s l.fn.places.items || any_mentions (at_choice c (names_of l.scope)) s (exprs_of (map expr_of l.exprs)))
