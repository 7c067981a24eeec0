use Rattle.std.proofs.Common.{◌≡◌, map, sym, subst}
use Rattle.std.specs.List.{AllZip}
use Rattle.cocoon_num.specs.Tree.{AssumeDecl}
use Rattle.cocoon_syntax.specs.TreeOf.{assume_of, design_of, param_of}
use Rattle.cocoon_types.specs.Design.{widths_of}
use Rattle.obligation_laws.specs.Shown.{HasWidth}
use Rattle.expr_terms.specs.Scopes.{Takes}
use Rattle.expr_terms.specs.Variables.{MakesAll}
use Rattle.fun_instances.specs.AssumptionTerms.{number_terms}
use Rattle.fun_instances.specs.Numbers.{AreConstants}
use Rattle.fun_instances.proofs.Numbers.{are_constants, numbers_wide}
use Rattle.fun_instances.proofs.assumptions.value_instance.Goals as goal

pub number_terms-requires : goal.number_terms-requires
number_terms-requires c =
    let d = design_of c.args.checked.now in
    let a = assume_of c.assumption-assumed.result.now in
    let at = c.assumption-assumed.ensures in
    subst (λ ps. AreConstants (widths_of (map param_of ps)) c.args.values.now) (sym c.deref.ensures.value)
    (are_constants d c.design-design.ensures.resolves.rules c.args.assumption a at c.args.values.now (c.requires.fit a at))

pub assumption_term-requires-clause-takes : goal.assumption_term-requires-clause-takes
assumption_term-requires-clause-takes c = λ b is.
    let a = assume_of c.assumption-assumed.result.now in
    let at = c.assumption-assumed.ensures in
    let ns = c.args.values.now in
    let m = c.number_terms.new.terms in
    let ids = c.in_ok-args.args.items in
    let same : a ≡ b = cc in
    let made : MakesAll m ids (number_terms (widths_of a.params) ns) = subst (λ ps. MakesAll m ids (number_terms (widths_of (map param_of ps)) ns)) c.deref.ensures.value c.in_ok-args.ensures.made in
    let takes : Takes m a.params ids = record {
      there = made.there;
      widths = subst (AllZip HasWidth (widths_of a.params)) (sym made.terms) (numbers_wide (widths_of a.params) ns (c.requires.fit a at));
    } in
    subst (λ xs. Takes m b.params xs) (sym c.deref-2.ensures.value) (subst (λ (x : AssumeDecl). Takes m x.params ids) same takes)
