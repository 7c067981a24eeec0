use Rattle.std.proofs.Common.{◌≡◌, ℕ, true, refl, sym, ap, subst, ◌∙◌}
use Rattle.cocoon_num.specs.Tree.{AssumeDecl}
use Rattle.cocoon_syntax.specs.TreeOf.{assume_of, design_of}
use Rattle.cocoon_types.specs.Design.{last_level, widths_of}
use Rattle.bv_terms.specs.Arenas.{term_at}
use Rattle.bv_terms.specs.TermTrees.{not_}
use Rattle.expr_terms.specs.Variables.{Keeps}
use Rattle.expr_terms.proofs.Making.{keeps_on}
use Rattle.query_laws.specs.Over.{IsOver}
use Rattle.bv_terms.specs.Fitting.{TablesFit}
use Rattle.bv_terms.specs.WithRows.{with_rows}
use Rattle.discharge.specs.Asked.{IsQuery}
use Rattle.discharge.specs.Queries.{assumption_query, inputs_from, own_term}
use Rattle.discharge.proofs.Ranges.{inputs_wide}
use Rattle.discharge.proofs.Deciding.{own_over}
use Rattle.discharge.proofs.Telling.{is_query}
use Rattle.discharge.proofs.asking.assumption_query.Goals as goal

pub with_defs-requires-clause-tables : goal.with_defs-requires-clause-tables
with_defs-requires-clause-tables c =
    let d = design_of c.args.checked.now in
    let tables = c.args.defs.now in
    let a = assume_of c.assumption-assumed.result.now in
    let at = c.assumption-assumed.ensures in
    let n = c.negation.new.terms in
    let own_is : term_at c.own_term.new.terms c.in_ok-term.term ≡ own_term d a = c.in_ok-term.ensures.term a at in
    let turned : term_at n c.in_ok-negated.negated ≡ not_ (own_term d a) = c.in_ok-negated.ensures.made.term ∙ ap not_ own_is in
    let rules = c.design-design.ensures.resolves.rules in
    let literals = c.code_literals_fit.ensures.designs c.args.checked.now in
    let over : IsOver d (λ i w. true) (own_term d a) =
    own_over d a (c.terms_apply_declared_functions.ensures d rules literals) (c.declarations_are_typed.ensures.assumptions d rules literals (last_level d) c.args.number a at) (λ i w. true) (λ k w e. refl) in
    let fit : TablesFit tables (not_ (own_term d a)) = c.tables_take_the_place.ensures.fit d tables c.requires.of (λ i w. true) (own_term d a) over in
    subst (λ ts. TablesFit ts (term_at n c.in_ok-negated.negated)) (sym c.tables.ensures.are) (subst (TablesFit tables) (sym turned) fit)

pub returns : goal.returns
returns c = λ b is.
    let d = design_of c.args.checked.now in
    let tables = c.args.defs.now in
    let a = assume_of c.assumption-assumed.result.now in
    let at = c.assumption-assumed.ensures in
    let ws = widths_of a.params in
    let k = c.own_term.new.terms in
    let n = c.negation.new.terms in
    let last = c.with_defs.new.terms in
    let same : a ≡ b = cc in
    let own_is : term_at k c.in_ok-term.term ≡ own_term d a = c.in_ok-term.ensures.term a at in
    let turned : term_at n c.in_ok-negated.negated ≡ not_ (own_term d a) = c.in_ok-negated.ensures.made.term ∙ ap not_ own_is in
    let rules = c.design-design.ensures.resolves.rules in
    let literals = c.code_literals_fit.ensures.designs c.args.checked.now in
    let over : IsOver d (λ i w. true) (own_term d a) =
    own_over d a (c.terms_apply_declared_functions.ensures d rules literals) (c.declarations_are_typed.ensures.assumptions d rules literals (last_level d) c.args.number a at) (λ i w. true) (λ k w e. refl) in
    let fit : TablesFit tables (not_ (own_term d a)) = c.tables_take_the_place.ensures.fit d tables c.requires.of (λ i w. true) (own_term d a) over in
    let goal_is : term_at last c.in_ok-goal.goal ≡ assumption_query d a tables = c.in_ok-goal.ensures.term ∙ (λ j. with_rows (c.tables.ensures.are j) (turned j)) in
    let third : Keeps n last = record { kept = c.with_defs.ensures.kept; inputs = c.with_defs.ensures.inputs } in
    let rest : Keeps k last = keeps_on k n last c.negation.ensures.kept third in
    subst (λ (x : AssumeDecl). IsQuery d x tables (record { terms = last; goal = c.in_ok-goal.goal })) same
    (is_query d a tables (record { terms = last; goal = c.in_ok-goal.goal }) k c.in_ok-term.term c.count.ensures.arena c.in_ok-term.ensures.there own_is rest.kept c.in_ok-goal.ensures.there goal_is
    (c.inputs_stay.ensures ws k last rest (c.in_ok-term.ensures.inputs a at))
    (c.assumptions_have_width_1.ensures.terms d rules literals c.args.number a at (inputs_from 0 ws) (inputs_wide 0 ws))
    (c.rows_keep_values.ensures.widths tables (not_ (own_term d a)) fit)
    (c.tables_take_the_place.ensures.unapplied d tables c.requires.of (λ i w. true) (not_ (own_term d a)) over))
