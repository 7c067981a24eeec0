use Rattle.std.proofs.Common.{subst, sym}
use Rattle.bv_terms.specs.Environments.{functions_of, inputs_of}
use Rattle.bv_terms.specs.TermValues.{Inputs}
use Rattle.cnf_core.specs.Satisfying.{makes_true}
use Rattle.cocoon_syntax.specs.TreeOf.{design_of}
use Rattle.runtime_defs.specs.Tables.{AreOfDesign, HaveFirstRows}
use Rattle.query_laws.specs.OwnNames.{own_name}
use Rattle.query_laws.specs.Candidates.{IsCandidate, MakeTrue}
use Rattle.candidates.specs.Assigned.{assigned}
use Rattle.candidates.proofs.Applications.{are-of-design, can-all}
use Rattle.candidates.proofs.TrueQueries.{numbers-are, of-true-query}
use Rattle.candidates.proofs.making.candidate.Goals as goal

pub environment-requires : goal.environment-requires
environment-requires c = c.requires.flat.mapped.count

pub lookups-requires : goal.lookups-requires
lookups-requires c =
    let z = c.requires in
    can-all (design_of c.args.checked.now) c.args.terms.now c.count-count.ensures.arena z.goal z.first z.flat.can z.flat.over z.flat.searched c.args.inputs.now z.flat.mapped
    (makes_true c.args.assignment.now) c.in_ok-env.env c.in_ok-env.ensures c.args.applied.now z.flat.applied_

pub tables_of-requires : goal.tables_of-requires
tables_of-requires c =
    let z = c.requires in
    let d = design_of c.args.checked.now in
    subst (AreOfDesign d) (sym c.deref.ensures.value)
    (are-of-design d c.args.terms.now c.count-count.ensures.arena z.goal z.first z.flat.can z.flat.over z.flat.searched c.args.inputs.now z.flat.mapped
    (makes_true c.args.assignment.now) c.in_ok-env.env c.in_ok-env.ensures c.args.applied.now c.in_ok-looked.looked.items z.flat.applied_ c.in_ok-looked.ensures)

pub returns-clause-candidate : goal.returns-clause-candidate
returns-clause-candidate c = λ level formula is s.
    let d = design_of c.args.checked.now in
    let env = c.in_ok-env.env in
    let looked = c.in_ok-looked.looked.items in
    let tables = c.in_ok-tables.tables.items in
    let made = subst (λ ls. HaveFirstRows ls tables) c.deref.ensures.value c.in_ok-tables.ensures.rows in
    subst (IsCandidate d level formula is) (sym c.in_ok-defs.ensures)
    (c.true_queries_have_candidates.ensures.candidate d c.design-design.ensures.resolves.rules (c.code_literals_fit.ensures.designs c.args.checked.now) level formula is
    (functions_of env) (inputs_of env) tables
    (of-true-query d c.args.terms.now c.count-count.ensures.arena c.args.applied.now c.args.inputs.now c.args.assignment.now env c.in_ok-env.ensures
    looked c.in_ok-looked.ensures tables c.in_ok-tables.ensures.fits made level formula is s))

pub returns-clause-formula : goal.returns-clause-formula
returns-clause-formula c = λ level formula is s.
    let d = design_of c.args.checked.now in
    let v = makes_true c.args.assignment.now in
    let env = c.in_ok-env.env in
    let looked = c.in_ok-looked.looked.items in
    let tables = c.in_ok-tables.tables.items in
    let made = subst (λ ls. HaveFirstRows ls tables) c.deref.ensures.value c.in_ok-tables.ensures.rows in
    subst (λ ts. MakeTrue ts (λ i. assigned v c.args.inputs.now (own_name formula i)) formula) (sym c.in_ok-defs.ensures)
    (subst (λ (f : Inputs). MakeTrue tables (λ i. f (own_name formula i)) formula) (λ k i. numbers-are v env.inputs c.args.inputs.now c.in_ok-env.ensures i k)
    (c.true_queries_have_candidates.ensures.formula d c.design-design.ensures.resolves.rules (c.code_literals_fit.ensures.designs c.args.checked.now) level formula is
    (functions_of env) (inputs_of env) tables
    (of-true-query d c.args.terms.now c.count-count.ensures.arena c.args.applied.now c.args.inputs.now c.args.assignment.now env c.in_ok-env.ensures
    looked c.in_ok-looked.ensures tables c.in_ok-tables.ensures.fits made level formula is s)))
