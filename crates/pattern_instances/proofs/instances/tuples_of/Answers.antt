use Rattle.std.proofs.Common.{◌≡◌, ◌==◌, length, map, false, sym, ap, subst, ◌∙◌, arith}
use Rattle.std.specs.List.{AllByRecursion}
use Rattle.std.proofs.lemmas.List.{length-map}
use Rattle.std.proofs.lemmas.Bool.{eqb-true}
use Rattle.std.proofs.lemmas.Result.{IfOk-weaker}
use Rattle.cocoon_num.specs.Tree.{AssumeDecl}
use Rattle.cocoon_syntax.specs.TreeOf.{assume_of, design_of, param_of}
use Rattle.bv_terms.specs.Arenas.{term_at}
use Rattle.bv_terms.specs.Walks.{AreNumbersOf, applications}
use Rattle.query_laws.specs.TupleFits.{HasAllPlaces}
use Rattle.query_laws.specs.Patterns.{patterns}
use Rattle.pattern_instances.specs.Found.{HavePlaces, found_patterns}
use Rattle.pattern_instances.proofs.Taking.{all-places, one-tuple, tuples-are}
use Rattle.pattern_instances.proofs.instances.tuples_of.Goals as goal

pub returns-then-is_empty : goal.returns-then-is_empty
returns-then-is_empty c = λ a is.
    let b = assume_of c.assumption.result.now in
    let same : b ≡ a = (let at = c.assumption.ensures in cc) in
    let ps = c.assumption.result.now.params in
    let len : ps.len ≡ 0 = eqb-true ps.len 0 (sym c.is_empty.ensures ∙ c.if-is_empty.true) in
    let none : length b.params ≡ 0 = (let e = length-map ps.items param_of in let s = ps.ok.0 in omega (arith, e, s, len)) in
    let none_a : length a.params ≡ 0 = ap (λ (x : AssumeDecl). length x.params) (sym same) ∙ none in
    IfOk-weaker c.no_terms.result _ _ (λ tuples h. one-tuple (design_of c.args.checked.now) a c.args.terms.now c.args.goal.now.term none_a (ap (λ n. n == 0) none_a) tuples.items h) c.no_terms.ensures

pub first_tuples-requires-clause-places : goal.first_tuples-requires-clause-places
first_tuples-requires-clause-places c =
    let d = design_of c.args.checked.now in
    let nodes = c.args.terms.now in
    let g = c.args.goal.now in
    let a = assume_of c.assumption.result.now in
    let at = c.assumption.ensures in
    let rules = c.design-design.ensures.resolves.rules in
    let literals = c.code_literals_fit.ensures.designs c.args.checked.now in
    let places = c.tuples_fit.ensures.places d rules literals c.args.assumption a at c.requires.goal.inputs (term_at nodes g.term) c.requires.goal.over in
    let found : found_patterns c.deref-2.result.now ≡ patterns d a = ap found_patterns c.deref-2.ensures.value ∙ c.in_ok-patterns.ensures a at in
    subst (AllByRecursion (HavePlaces nodes (found_patterns c.deref-2.result.now))) (sym c.deref.ensures.value)
    (all-places nodes c.count.ensures.arena (found_patterns c.deref-2.result.now) g.applications.items
    (subst (λ ps. AllByRecursion (HasAllPlaces ps) (map (term_at nodes) g.applications.items)) (sym found)
    (subst (AllByRecursion (HasAllPlaces (patterns d a))) (sym c.requires.goal.applications_.terms) places)))

pub returns : goal.returns
returns c = λ a is.
    let d = design_of c.args.checked.now in
    let nodes = c.args.terms.now in
    let g = c.args.goal.now in
    let b = assume_of c.assumption.result.now in
    let same : b ≡ a = (let at = c.assumption.ensures in cc) in
    let ps = c.assumption.result.now.params in
    let some : (ps.len == 0) ≡ false = sym c.is_empty.ensures ∙ c.if-is_empty.false in
    let len : ps.len ≡ length b.params = (let e = length-map ps.items param_of in let s = ps.ok.0 in omega (arith, e, s)) in
    let some_a : (length a.params == 0) ≡ false = ap (λ (x : AssumeDecl). length x.params == 0) (sym same) ∙ ap (λ n. n == 0) (sym len) ∙ some in
    let rules = c.design-design.ensures.resolves.rules in
    let literals = c.code_literals_fit.ensures.designs c.args.checked.now in
    let found : found_patterns c.deref-2.result.now ≡ patterns d a = ap found_patterns c.deref-2.ensures.value ∙ c.in_ok-patterns.ensures a is in
    let places = c.tuples_fit.ensures.places d rules literals c.args.assumption a is c.requires.goal.inputs (term_at nodes g.term) c.requires.goal.over in
    let here : AllByRecursion (HavePlaces nodes (found_patterns c.deref-2.result.now)) c.deref.result.now =
    subst (AllByRecursion (HavePlaces nodes (found_patterns c.deref-2.result.now))) (sym c.deref.ensures.value)
    (all-places nodes c.count.ensures.arena (found_patterns c.deref-2.result.now) g.applications.items
    (subst (λ qs. AllByRecursion (HasAllPlaces qs) (map (term_at nodes) g.applications.items)) (sym found)
    (subst (AllByRecursion (HasAllPlaces (patterns d a))) (sym c.requires.goal.applications_.terms) places))) in
    IfOk-weaker c.first_tuples.result _ _
    (λ tuples h.
    tuples-are d a nodes
    (record {
      arena = c.count.ensures.arena;
      itself = c.equal_terms_are_the_same.ensures.itself;
      only = c.equal_terms_are_the_same.ensures.only;
      one = c.equal_terms_have_one_number.ensures nodes c.count.ensures.arena;
    }) g.term c.deref.result.now
    (subst (AreNumbersOf nodes (applications (term_at nodes g.term))) (sym c.deref.ensures.value) c.requires.goal.applications_)
    some_a (found_patterns c.deref-2.result.now) found here
    (c.tuples_fit.ensures.widths d rules literals c.args.assumption a is c.requires.goal.inputs (term_at nodes g.term) c.requires.goal.over) tuples.items h)
    c.first_tuples.ensures
