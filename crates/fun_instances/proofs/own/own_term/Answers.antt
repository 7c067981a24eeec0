use Rattle.std.proofs.Common.{◌≡◌, map, Result, Ok, Err, IfOk, OnOk, sym, ap, subst, ◌∙◌}
use Rattle.std.specs.List.{AllByRecursion, AllZip}
use Rattle.std.proofs.lemmas.Result.{IfOk-weaker}
use Rattle.cocoon_num.specs.Tree.{AssumeDecl}
use Rattle.cocoon_syntax.specs.TreeOf.{assume_of, design_of, param_of}
use Rattle.cocoon_types.specs.Design.{widths_of}
use Rattle.bv_terms.specs.Arenas.{term_at}
use Rattle.bv_terms.specs.TermTrees.{IsWidth}
use Rattle.obligation_laws.specs.Shown.{HasWidth}
use Rattle.expr_terms.specs.Scopes.{Takes}
use Rattle.expr_terms.specs.Variables.{terms_at}
use Rattle.fun_instances.specs.AssumptionTerms.{assumption_term, own_term}
use Rattle.fun_instances.specs.OwnInputs.{HasInputs, HasInputsOf}
use Rattle.fun_instances.proofs.Numbers.{params_wide}
use Rattle.fun_instances.proofs.OwnInputs.{all_kept, inputs_terms, inputs_there, inputs_wide}
use Rattle.fun_instances.proofs.own.own_term.Goals as goal

pub parameter_inputs-requires-clause-widths : goal.parameter_inputs-requires-clause-widths
parameter_inputs-requires-clause-widths c =
    let d = design_of c.args.checked.now in
    let a = assume_of c.assumption-assumed.result.now in
    subst (λ ps. AllByRecursion IsWidth (widths_of (map param_of ps))) (sym c.deref.ensures.value)
    (params_wide d c.design-design.ensures.resolves.rules c.args.assumption a c.assumption-assumed.ensures)

pub assumption_term-requires-clause-takes : goal.assumption_term-requires-clause-takes
assumption_term-requires-clause-takes c = λ b is.
    let a = assume_of c.assumption-assumed.result.now in
    let ws = widths_of a.params in
    let m = c.parameter_inputs.new.terms in
    let ids = c.in_ok-inputs.inputs.items in
    let same : a ≡ b = (let at = c.assumption-assumed.ensures in cc) in
    let made : HasInputs m ids ws = subst (λ ps. HasInputs m ids (widths_of (map param_of ps))) c.deref.ensures.value c.in_ok-inputs.ensures in
    let takes : Takes m a.params ids = record {
      there = inputs_there m 0 ids ws made.are;
      widths = subst (AllZip HasWidth ws) (sym (inputs_terms m 0 ids ws made.are)) (inputs_wide 0 ws);
    } in
    subst (λ xs. Takes m b.params xs) (sym c.deref-2.ensures.value) (subst (λ (x : AssumeDecl). Takes m x.params ids) same takes)

on_ok : {A E : Type 0} (P : Type 0) (r : Result A E) → P → OnOk r P
on_ok P (Ok x) h = h
on_ok P (Err e) h = tt

pub returns-clause-term : goal.returns-clause-term
returns-clause-term c = λ b is.
    let d = design_of c.args.checked.now in
    let a = assume_of c.assumption-assumed.result.now in
    let ws = widths_of a.params in
    let m = c.parameter_inputs.new.terms in
    let ids = c.in_ok-inputs.inputs.items in
    let same : a ≡ b = (let at = c.assumption-assumed.ensures in cc) in
    let made : HasInputs m ids ws = subst (λ ps. HasInputs m ids (widths_of (map param_of ps))) c.deref.ensures.value c.in_ok-inputs.ensures in
    subst (λ (x : AssumeDecl). IfOk c.assumption_term.result (λ id. term_at c.assumption_term.new.terms id ≡ own_term d x)) same
    (IfOk-weaker c.assumption_term.result _ _
    (λ id h. h ∙ ap (λ xs. assumption_term d a (terms_at m xs)) c.deref-2.ensures.value ∙ ap (assumption_term d a) (inputs_terms m 0 ids ws made.are))
    (c.assumption_term.ensures.term a c.assumption-assumed.ensures))

pub returns-clause-inputs : goal.returns-clause-inputs
returns-clause-inputs c = λ b is.
    let a = assume_of c.assumption-assumed.result.now in
    let ws = widths_of a.params in
    let m = c.parameter_inputs.new.terms in
    let n = c.assumption_term.new.terms in
    let ids = c.in_ok-inputs.inputs.items in
    let same : a ≡ b = (let at = c.assumption-assumed.ensures in cc) in
    let made : HasInputs m ids ws = subst (λ ps. HasInputs m ids (widths_of (map param_of ps))) c.deref.ensures.value c.in_ok-inputs.ensures in
    on_ok (HasInputsOf (widths_of b.params) n) c.assumption_term.result
    (subst (λ (x : AssumeDecl). HasInputsOf (widths_of x.params) n) same
    (record { ids = ids; inputs = all_kept m n c.assumption_term.ensures.kept c.assumption_term.ensures.inputs ids ws made }))
