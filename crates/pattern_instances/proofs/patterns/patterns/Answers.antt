use Rattle.std.proofs.Common.{◌≡◌, filter_map, length, map, ap, ◌∙◌}
use Rattle.std.proofs.lemmas.List.{length-map}
use Rattle.std.proofs.lemmas.Result.{IfOk-weaker}
use Rattle.cocoon_num.specs.Tree.{Param}
use Rattle.cocoon_syntax.specs.TreeOf.{design_of}
use Rattle.bv_terms.specs.Arenas.{term_at}
use Rattle.bv_terms.specs.Walks.{applications}
use Rattle.fun_instances.specs.AssumptionTerms.{own_term}
use Rattle.query_laws.specs.Patterns.{pattern_of}
use Rattle.pattern_instances.proofs.patterns.patterns.Goals as goal

pub returns : goal.returns
returns c = λ a is.
    let d = design_of c.args.checked.now in
    let own = c.own_term.new.terms in
    let count : c.input_count-count.result ≡ length a.params =
    c.input_count-count.ensures ∙ (c.in_ok-term.ensures.inputs a is).inputs.count ∙ length-map a.params (λ (p : Param). p.width) in
    let terms : map (term_at own) c.deref.result.now ≡ applications (own_term d a) =
    ap (map (term_at own)) c.deref.ensures.value ∙ c.in_ok-applications.ensures.terms ∙ ap applications (c.in_ok-term.ensures.term a is) in
    IfOk-weaker c.patterns_among.result _ _ (λ ps h. h ∙ (λ j. filter_map (pattern_of (count j)) (terms j))) c.patterns_among.ensures
