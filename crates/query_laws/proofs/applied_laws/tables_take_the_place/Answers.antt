use Rattle.bv_terms.specs.WithRows.{with_rows}
use Rattle.query_laws.proofs.Places.{tables-fit}
use Rattle.query_laws.proofs.Plain.{plain-inputs, plain-unapplied, rows-plain}
use Rattle.query_laws.proofs.applied_laws.tables_take_the_place.Goals as goal

pub returns-clause-fit : goal.returns-clause-fit
returns-clause-fit c = tables-fit

pub returns-clause-unapplied : goal.returns-clause-unapplied
returns-clause-unapplied c = λ d tables z inputs t h. plain-unapplied inputs (with_rows tables t) (rows-plain inputs d tables z t h)

pub returns-clause-inputs : goal.returns-clause-inputs
returns-clause-inputs c = λ d tables z inputs t h. plain-inputs inputs (with_rows tables t) (rows-plain inputs d tables z t h)
