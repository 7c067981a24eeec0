use Rattle.std.proofs.Common.{◌≡◌, ◌∙◌, ap, map, rules, subst, sym}
use Rattle.std.specs.Bool.{IsTrue}
use Rattle.cocoon_syntax.specs.TreeOf.{assume_of, design_of, param_of}
use Rattle.obligation_laws.specs.TermOf.{bind_terms}
use Rattle.expr_terms.specs.Variables.{VariablesThere, terms_at, variables_of}
use Rattle.obligation_tests.specs.Asked.{are_params}
use Rattle.obligation_tests.proofs.QuestionTerms.{all-there, typed}
use Rattle.obligation_tests.proofs.questions.question_term.Goals as goal

pub expr_term-requires-clause-typed : goal.expr_term-requires-clause-typed
expr_term-requires-clause-typed c =
    let nodes = c.args.terms.now in
    let ids = c.args.inputs.now in
    let vars = c.deref-3.result.now in
    let a = assume_of c.args.question.now in
    let yes : IsTrue c.are_params.result = search rules in
    let fit : IsTrue (are_params nodes a.params ids) = subst (λ ps. IsTrue (are_params nodes (map param_of ps) ids)) c.deref.ensures.value (c.are_params.ensures yes) in
    let bound : variables_of nodes vars ≡ bind_terms a.params (terms_at nodes ids) =
    ap (variables_of nodes) c.deref-3.ensures.value ∙ c.in_ok-variables.ensures.bound nodes ∙ ap (λ ps. bind_terms (map param_of ps) (terms_at nodes ids)) c.deref-2.ensures.value in
    let there : VariablesThere nodes vars = subst (VariablesThere nodes) (sym c.deref-3.ensures.value) (c.in_ok-variables.ensures.there nodes (all-there nodes a.params ids fit)) in
    typed (design_of c.args.checked.now) a nodes vars ids c.requires fit bound there
