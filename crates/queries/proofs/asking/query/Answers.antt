use Rattle.std.proofs.Common.{◌≡◌, sym, ap, subst, ◌∙◌}
use Rattle.std.specs.List.{AllByRecursion}
use Rattle.cocoon_syntax.specs.TreeOf.{design_of}
use Rattle.query_laws.specs.Over.{IsOver}
use Rattle.bv_terms.specs.Arenas.{inputs_in, term_at}
use Rattle.bv_terms.specs.TermTrees.{width}
use Rattle.flat_laws.specs.Meant.{AppliesAlike}
use Rattle.query_laws.specs.LeafTerms.{any_input}
use Rattle.queries.proofs.Instances.{of_assumptions}
use Rattle.queries.proofs.Queries.{IsAdded, all_added, all_asked, asked_term, copied, is_query}
use Rattle.queries.proofs.asking.query.Goals as goal

pub pattern_instances-requires-clause-over : goal.pattern_instances-requires-clause-over
pattern_instances-requires-clause-over c =
    let d = design_of c.args.checked.now in
    let formula = term_at c.args.terms.now c.args.formula in
    let first = c.in_ok-copied.copied.term in
    let inputs = c.in_ok-copied.copied.inputs in
    let copy = copied formula c.copy.new.to first (inputs_in c.new-own.result) inputs (ap inputs_in c.new-own.ensures) (c.own_names_are_by_place.ensures formula inputs c.in_ok-copied.ensures.inputs)
    c.in_ok-copied.ensures.there c.in_ok-copied.ensures.term c.in_ok-copied.ensures.more in
    (any_input, subst (IsOver d any_input) (sym copy.made.term) (c.added_terms_fit.ensures.own d formula c.requires.stands).1)

pub put_instances-requires-clause-fit : goal.put_instances-requires-clause-fit
put_instances-requires-clause-fit c = of_assumptions (design_of c.args.checked.now) c.args.level c.args.instances.now c.requires.fit

pub all_true-requires-clause-width : goal.all_true-requires-clause-width
all_true-requires-clause-width c =
    let d = design_of c.args.checked.now in
    let formula = term_at c.args.terms.now c.args.formula in
    let is = c.args.instances.now in
    let first = c.in_ok-copied.copied.term in
    let inputs = c.in_ok-copied.copied.inputs in
    let copy = copied formula c.copy.new.to first (inputs_in c.new-own.result) inputs (ap inputs_in c.new-own.ensures) (c.own_names_are_by_place.ensures formula inputs c.in_ok-copied.ensures.inputs)
    c.in_ok-copied.ensures.there c.in_ok-copied.ensures.term c.in_ok-copied.ensures.more in
    let more = all_added d c.args.level formula is c.copy.new.to c.pattern_instances.new.terms c.put_instances.new.terms first c.in_ok-others.others.items c.put_instances.new.ids.items copy c.in_ok-others.ensures.kept
    c.in_ok-others.ensures.terms c.in_ok-put_instances.ensures.kept c.in_ok-put_instances.ensures.made in
    let here : IsAdded d c.args.level formula is c.put_instances.new.terms first c.deref.result.now = subst (IsAdded d c.args.level formula is c.put_instances.new.terms first) (sym c.deref.ensures.value) more in
    ap width here.copy.made.term ∙ (c.added_terms_fit.ensures.own d formula c.requires.stands).0

pub all_true-requires-clause-widths : goal.all_true-requires-clause-widths
all_true-requires-clause-widths c =
    let d = design_of c.args.checked.now in
    let formula = term_at c.args.terms.now c.args.formula in
    let is = c.args.instances.now in
    let first = c.in_ok-copied.copied.term in
    let inputs = c.in_ok-copied.copied.inputs in
    let copy = copied formula c.copy.new.to first (inputs_in c.new-own.result) inputs (ap inputs_in c.new-own.ensures) (c.own_names_are_by_place.ensures formula inputs c.in_ok-copied.ensures.inputs)
    c.in_ok-copied.ensures.there c.in_ok-copied.ensures.term c.in_ok-copied.ensures.more in
    let more = all_added d c.args.level formula is c.copy.new.to c.pattern_instances.new.terms c.put_instances.new.terms first c.in_ok-others.others.items c.put_instances.new.ids.items copy c.in_ok-others.ensures.kept
    c.in_ok-others.ensures.terms c.in_ok-put_instances.ensures.kept c.in_ok-put_instances.ensures.made in
    let here : IsAdded d c.args.level formula is c.put_instances.new.terms first c.deref.result.now = subst (IsAdded d c.args.level formula is c.put_instances.new.terms first) (sym c.deref.ensures.value) more in
    let rules = c.design-design.ensures.resolves.rules in
    let literals = c.code_literals_fit.ensures.designs c.args.checked.now in
    subst (AllByRecursion (λ t. width t ≡ 1)) (sym here.others_.terms) (c.added_terms_fit.ensures.added d rules literals c.args.level formula c.requires.stands is c.requires.fit)

pub flatten-requires-clause-truth : goal.flatten-requires-clause-truth
flatten-requires-clause-truth c =
    let d = design_of c.args.checked.now in
    let formula = term_at c.args.terms.now c.args.formula in
    let is = c.args.instances.now in
    let first = c.in_ok-copied.copied.term in
    let inputs = c.in_ok-copied.copied.inputs in
    let copy = copied formula c.copy.new.to first (inputs_in c.new-own.result) inputs (ap inputs_in c.new-own.ensures) (c.own_names_are_by_place.ensures formula inputs c.in_ok-copied.ensures.inputs)
    c.in_ok-copied.ensures.there c.in_ok-copied.ensures.term c.in_ok-copied.ensures.more in
    let more = all_added d c.args.level formula is c.copy.new.to c.pattern_instances.new.terms c.put_instances.new.terms first c.in_ok-others.others.items c.put_instances.new.ids.items copy c.in_ok-others.ensures.kept
    c.in_ok-others.ensures.terms c.in_ok-put_instances.ensures.kept c.in_ok-put_instances.ensures.made in
    let here : IsAdded d c.args.level formula is c.put_instances.new.terms first c.deref.result.now = subst (IsAdded d c.args.level formula is c.put_instances.new.terms first) (sym c.deref.ensures.value) more in
    let rules = c.design-design.ensures.resolves.rules in
    let literals = c.code_literals_fit.ensures.designs c.args.checked.now in
    let all = all_asked d c.args.level formula is c.put_instances.new.terms c.all_true.new.terms first c.in_ok-asked.asked c.deref.result.now here c.in_ok-asked.ensures.kept c.in_ok-asked.ensures.made in
    let term = asked_term d c.args.level formula is c.all_true.new.terms c.in_ok-asked.asked c.count.ensures.arena all in
    ap width all.made.term ∙ (c.queries_are_goals.ensures.flat d rules literals c.args.level formula c.requires.stands is c.requires.fit term).truth

pub flatten-requires-clause-alike : goal.flatten-requires-clause-alike
flatten-requires-clause-alike c =
    let d = design_of c.args.checked.now in
    let formula = term_at c.args.terms.now c.args.formula in
    let is = c.args.instances.now in
    let first = c.in_ok-copied.copied.term in
    let inputs = c.in_ok-copied.copied.inputs in
    let copy = copied formula c.copy.new.to first (inputs_in c.new-own.result) inputs (ap inputs_in c.new-own.ensures) (c.own_names_are_by_place.ensures formula inputs c.in_ok-copied.ensures.inputs)
    c.in_ok-copied.ensures.there c.in_ok-copied.ensures.term c.in_ok-copied.ensures.more in
    let more = all_added d c.args.level formula is c.copy.new.to c.pattern_instances.new.terms c.put_instances.new.terms first c.in_ok-others.others.items c.put_instances.new.ids.items copy c.in_ok-others.ensures.kept
    c.in_ok-others.ensures.terms c.in_ok-put_instances.ensures.kept c.in_ok-put_instances.ensures.made in
    let here : IsAdded d c.args.level formula is c.put_instances.new.terms first c.deref.result.now = subst (IsAdded d c.args.level formula is c.put_instances.new.terms first) (sym c.deref.ensures.value) more in
    let rules = c.design-design.ensures.resolves.rules in
    let literals = c.code_literals_fit.ensures.designs c.args.checked.now in
    let all = all_asked d c.args.level formula is c.put_instances.new.terms c.all_true.new.terms first c.in_ok-asked.asked c.deref.result.now here c.in_ok-asked.ensures.kept c.in_ok-asked.ensures.made in
    let term = asked_term d c.args.level formula is c.all_true.new.terms c.in_ok-asked.asked c.count.ensures.arena all in
    subst AppliesAlike (sym all.made.term) (c.queries_are_goals.ensures.flat d rules literals c.args.level formula c.requires.stands is c.requires.fit term).alike

pub returns : goal.returns
returns c =
    let d = design_of c.args.checked.now in
    let formula = term_at c.args.terms.now c.args.formula in
    let is = c.args.instances.now in
    let first = c.in_ok-copied.copied.term in
    let inputs = c.in_ok-copied.copied.inputs in
    let copy = copied formula c.copy.new.to first (inputs_in c.new-own.result) inputs (ap inputs_in c.new-own.ensures) (c.own_names_are_by_place.ensures formula inputs c.in_ok-copied.ensures.inputs)
    c.in_ok-copied.ensures.there c.in_ok-copied.ensures.term c.in_ok-copied.ensures.more in
    let more = all_added d c.args.level formula is c.copy.new.to c.pattern_instances.new.terms c.put_instances.new.terms first c.in_ok-others.others.items c.put_instances.new.ids.items copy c.in_ok-others.ensures.kept
    c.in_ok-others.ensures.terms c.in_ok-put_instances.ensures.kept c.in_ok-put_instances.ensures.made in
    let here : IsAdded d c.args.level formula is c.put_instances.new.terms first c.deref.result.now = subst (IsAdded d c.args.level formula is c.put_instances.new.terms first) (sym c.deref.ensures.value) more in
    let rules = c.design-design.ensures.resolves.rules in
    let literals = c.code_literals_fit.ensures.designs c.args.checked.now in
    let all = all_asked d c.args.level formula is c.put_instances.new.terms c.all_true.new.terms first c.in_ok-asked.asked c.deref.result.now here c.in_ok-asked.ensures.kept c.in_ok-asked.ensures.made in
    let term = asked_term d c.args.level formula is c.all_true.new.terms c.in_ok-asked.asked c.count.ensures.arena all in
    is_query d c.args.level formula is c.all_true.new.terms c.in_ok-asked.asked
    (record { terms = c.flatten.new.terms; goal = c.in_ok-flat.flat.goal; inputs = inputs; applied = c.in_ok-flat.flat.applied }) all term
    (c.queries_are_goals.ensures.goal d rules literals c.args.level formula c.requires.stands is c.requires.fit term)
    (c.own_names_are_by_place.ensures formula inputs c.in_ok-copied.ensures.inputs) c.in_ok-flat.ensures.kept c.in_ok-flat.ensures.there c.in_ok-flat.ensures.term c.in_ok-flat.ensures.applied
