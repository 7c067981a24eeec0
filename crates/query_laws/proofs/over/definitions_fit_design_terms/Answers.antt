use Rattle.std.proofs.Common.{sym, subst}
use Rattle.bv_terms.specs.Inputs.{FunctionsFit}
use Rattle.cocoon_types.specs.Tables.{Defs, defs_of}
use Rattle.obligation_laws.specs.Shown.{functions_by}
use Rattle.sound_types.proofs.Declared.{names_differ}
use Rattle.obligation_laws.proofs.Rows.{rows_fit}
use Rattle.query_laws.proofs.OverParts.{functions-fit}
use Rattle.query_laws.proofs.over.definitions_fit_design_terms.Goals as goal

pub returns : goal.returns
returns c = λ d w l defs are inputs t h.
    subst (λ (x : Defs). FunctionsFit t (functions_by d x)) (sym are.are)
    (functions-fit d (defs_of d are.entries)
    (rows_fit d (defs_of d are.entries) (names_differ d w)
    (c.expressions_have_values.ensures.by_definitions d are.entries (record { rules = w; literals = l; fits = are.fit; values_fit = are.values_fit })))
    inputs t h)
