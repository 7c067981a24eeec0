use Rattle.std.proofs.Common.{◌^◌, sym, ◌∙◌}
use Rattle.std.proofs.lemmas.Bool.{lt-ltb}
use Rattle.cocoon_types.specs.Tables.{defs_of}
use Rattle.bv_terms.specs.TermValues.{Functions}
use Rattle.query_laws.specs.Over.{fit_input}
use Rattle.query_laws.specs.LeafTerms.{any_input}
use Rattle.query_laws.proofs.OverParts.{over-others}
use Rattle.query_laws.proofs.search_laws.formulas_stay_true.Goals as goal

pub returns : goal.returns
returns c = λ d tables z formula stands t ins h es has of.
    let none : Functions = λ f xs. 0 in
    let over = over-others d any_input formula stands.1 (fit_input ins) (λ i w m. lt-ltb (ins i) (2 ^ w) (h.fit i w m)) in
    sym (c.tables_keep_values.ensures d tables (defs_of d es) z of ins formula t over none)
    ∙ c.rows_keep_values.ensures.values tables none ins formula t (c.tables_take_the_place.ensures.fit d tables z (fit_input ins) formula over)
    ∙ h.is_true
