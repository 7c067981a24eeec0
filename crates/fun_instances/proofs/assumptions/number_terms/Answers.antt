use Rattle.std.proofs.Common.{◌≡◌, ◌+◌, ◌<◌, ◌≤◌, [], ◌∷◌, ◌++◌, map, drop, length, get_or, rules, sym, ap, subst, ◌∙◌, arith}
use Rattle.std.proofs.lemmas.List.{drop_all}
use Rattle.cocoon_syntax.specs.TreeOf.{param_of}
use Rattle.cocoon_types.specs.Design.{widths_of}
use Rattle.expr_terms.specs.Variables.{AreThere, terms_at}
use Rattle.expr_terms.proofs.Making.{keeps_on, there_more, there_on}
use Rattle.fun_instances.specs.AssumptionTerms.{number_terms}
use Rattle.fun_instances.proofs.Numbers.{all_made, is_constant, next, one_more, within}
use Rattle.fun_instances.proofs.assumptions.number_terms.Goals as goal

pub number_term-requires-clause-width : goal.number_term-requires-clause-width
number_term-requires-clause-width c =
    let l : c.loop-at.at < length c.args.values.now = search rules in
    (is_constant param_of c.args.params.now c.args.values.now c.requires c.loop-at.at c.index-params-at.result l c.index-params-at.is).0

pub number_term-requires-clause-fits : goal.number_term-requires-clause-fits
number_term-requires-clause-fits c =
    let l : c.loop-at.at < length c.args.values.now = search rules in
    (is_constant param_of c.args.params.now c.args.values.now c.requires c.loop-at.at c.index-params-at.result l c.index-params-at.is).1

pub loop-at-preserved : goal.loop-at-preserved
loop-at-preserved c =
    let ps = c.args.params.now in
    let ns = c.args.values.now in
    let i = c.loop-at.at in
    let n = c.loop-at.terms in
    let m = c.number_term.new.terms in
    let ids = c.loop-at.made.items in
    let id = c.in_ok-number_term.field-0 in
    let p = c.index-params-at.result in
    let so_far = c.loop-at.invariant in
    let kept = c.in_ok-number_term.ensures.kept in
    let made = c.in_ok-number_term.ensures.made in
    let ws = widths_of (map param_of (drop (i + 1) ps)) in
    let l : i < length ns = search rules in
    let items : c.push.new.self.items ≡ ids ++ id ∷ [] = c.in_ok-push.ensures.items in
    let first = next param_of ps ns i p (within param_of ps ns i c.requires l) c.index-params-at.is l in
    record {
      within = omega (arith, l);
      kept = keeps_on c.args.terms.now n m so_far.kept kept;
      there = subst (AreThere m) (sym items) (there_more m ids id (there_on n m ids kept so_far.there) made.there);
      terms = ap (λ xs. terms_at m xs ++ number_terms ws (drop (i + 1) ns)) items
          ∙ one_more n m ids id (param_of p).width (get_or ns i 0) ws (drop (i + 1) ns) (number_terms (widths_of (map param_of (drop i ps))) (drop i ns)) (number_terms (widths_of (map param_of ps)) ns) first kept so_far.there made so_far.terms;
    }

pub returns-clause-made : goal.returns-clause-made
returns-clause-made c =
    let ps = c.args.params.now in
    let ns = c.args.values.now in
    let i = c.loop-at.at in
    let l : length ns ≤ i = search rules in
    record {
      there = c.loop-at.invariant.there;
      terms = all_made c.loop-at.terms c.loop-at.made.items (widths_of (map param_of (drop i ps))) (drop i ns) (number_terms (widths_of (map param_of ps)) ns) (drop_all i ns l) c.loop-at.invariant.terms;
    }
