-- The variables of a question, and that its term can be made.
use Rattle.std.proofs.Common.{◌≡◌, ℕ, ◌<◌, ◌==◌, true, List, [], ◌∷◌, false, length, nat_lt, refl, sym, subst}
use Rattle.std.specs.List.{AllByRecursion}
use Rattle.std.proofs.lemmas.Bool.{ltb-true, eqb-true}
use Rattle.std.proofs.lemmas.List.Elements.{All-from_recursion, All-nil}
use Rattle.cocoon_num.specs.Sorts.{truth_sort}
use Rattle.cocoon_num.specs.Tree.{AssumeDecl, Param, Design}
use Rattle.bv_terms.specs.declared.node.Node.{Node}
use Rattle.bv_terms.specs.Arenas.{width_at}
use Rattle.cocoon_types.specs.Design.{last_level}
use Rattle.sound_types.specs.WellTyped.{scope_at}
use Rattle.obligation_laws.specs.Shown.{AreVariables}
use Rattle.obligation_laws.specs.TermOf.{bind_terms}
use Rattle.expr_terms.specs.Scopes.{IsTyped}
use Rattle.expr_terms.specs.Variables.{AreThere, VariablesThere, terms_at, variables_of}
use Rattle.expr_terms.specs.declared.variables.Variable.{Variable}
use Rattle.obligation_tests.specs.Asked.{IsQuestion, are_params, is_param}
use Rattle.obligation_tests.proofs.Standing.{both}

one-param : (nodes : List Node) (p : Param) (id : ℕ) → is_param nodes p id ≡ true → (id < length nodes) × (width_at nodes id ≡ p.width)
one-param nodes p id e =
    let parts = both (nat_lt id (length nodes)) (width_at nodes id == p.width) e in
    (ltb-true id (length nodes) parts.0, eqb-true (width_at nodes id) p.width parts.1)

are-there : (nodes : List Node) (ps : List Param) (ids : List ℕ) → are_params nodes ps ids ≡ true → AllByRecursion (λ k. k < length nodes) ids
are-there nodes [] [] e = tt
are-there nodes [] (id ∷ ids) e = absurd (cc)
are-there nodes (p ∷ ps) [] e = absurd (cc)
are-there nodes (p ∷ ps) (id ∷ ids) e =
    let parts = both (is_param nodes p id) (are_params nodes ps ids) e in
    ((one-param nodes p id parts.0).0, are-there nodes ps ids parts.1)

pub all-there : (nodes : List Node) (ps : List Param) (ids : List ℕ) → are_params nodes ps ids ≡ true → AreThere nodes ids
all-there nodes ps ids e = All-from_recursion (λ k. k < length nodes) ids (are-there nodes ps ids e)

are-variables : (nodes : List Node) (ps : List Param) (ids : List ℕ) → are_params nodes ps ids ≡ true → AreVariables ps (bind_terms ps (terms_at nodes ids))
are-variables nodes [] [] e = tt
are-variables nodes [] (id ∷ ids) e = absurd (cc)
are-variables nodes (p ∷ ps) [] e = absurd (cc)
are-variables nodes (p ∷ ps) (id ∷ ids) e =
    let parts = both (is_param nodes p id) (are_params nodes ps ids) e in
    (refl, (one-param nodes p id parts.0).1, are-variables nodes ps ids parts.1)

-- a question whose parameters are these terms has a term
pub typed : (d : Design) (a : AssumeDecl) (nodes : List Node) (vars : List Variable) (ids : List ℕ) → IsQuestion d a → are_params nodes a.params ids ≡ true
    → variables_of nodes vars ≡ bind_terms a.params (terms_at nodes ids) → VariablesThere nodes vars → IsTyped d nodes vars [] a.body
typed d a nodes vars ids q e same there = record {
  scope = scope_at d (last_level d) a.params false;
  sort = truth_sort;
  design = refl;
  typed = q;
  fits = record {
    variables = subst (AreVariables a.params) (sym same) (are-variables nodes a.params ids e);
    fields_fit = λ packet. absurd (cc);
  };
  variables = there;
  fields_there = All-nil (λ k. k < length nodes);
}
