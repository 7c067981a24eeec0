use Rattle.std.proofs.Common.{◌≡◌, refl, sym, ap, subst, ◌∙◌}
use Rattle.std.proofs.lemmas.Result.{IfOk-weaker}
use Rattle.cnf_core.specs.Satisfying.{makes_true}
use Rattle.cocoon_resolve.specs.Readers.{all_assumptions}
use Rattle.cocoon_syntax.specs.TreeOf.{design_of}
use Rattle.cdcl.specs.Answering.{Answers}
use Rattle.bit_blast.specs.Blasting.{IsClauses}
use Rattle.bit_blast.specs.Goals.{IsUnapplied}
use Rattle.bv_terms.specs.TermTrees.{width}
use Rattle.discharge.specs.Meeting.{IsFalseAt, OfTables}
use Rattle.discharge.specs.Queries.{assumption_query}
use Rattle.discharge.proofs.Lists.{at_there}
use Rattle.discharge.proofs.Telling.{narrow_rows, refused_says, values_are}
use Rattle.discharge.proofs.asking.search.Goals as goal

pub blast-requires-clause-there : goal.blast-requires-clause-there
blast-requires-clause-there c = let a = at_there (all_assumptions (design_of c.args.checked.now)) c.args.number c.requires.number in (c.requires.query a.0 a.1).there

pub blast-requires-clause-truth : goal.blast-requires-clause-truth
blast-requires-clause-truth c =
    let a = at_there (all_assumptions (design_of c.args.checked.now)) c.args.number c.requires.number in
    let q = c.requires.query a.0 a.1 in
    ap width q.term ∙ q.asked.goal.truth

pub blast-requires-clause-unapplied : goal.blast-requires-clause-unapplied
blast-requires-clause-unapplied c =
    let a = at_there (all_assumptions (design_of c.args.checked.now)) c.args.number c.requires.number in
    let q = c.requires.query a.0 a.1 in
    subst IsUnapplied (sym q.term) q.asked.goal.unapplied

pub values-requires-clause-narrow : goal.values-requires-clause-narrow
values-requires-clause-narrow c =
    let d = design_of c.args.checked.now in
    let a = at_there (all_assumptions d) c.args.number c.requires.number in
    narrow_rows d c.design-design.ensures.resolves.rules c.args.number a.0 a.1 c.args.defs.now c.args.query.now (c.requires.query a.0 a.1) c.in-Ok.made.1 c.in-Ok.ensures.inputs

pub returns-in-Err : goal.returns-in-Err
returns-in-Err c = λ a is.
    let d = design_of c.args.checked.now in
    IfOk-weaker c.refused.result _ _
    (λ met h. refused_says d a c.args.defs.now c.args.query.now (c.requires.query a is) c.args.conflicts c.args.number c.in-Err.fault c.in-Err.ensures.fault met h)
    c.refused.ensures

pub returns-in-Satisfied : goal.returns-in-Satisfied
returns-in-Satisfied c = λ a is.
    let d = design_of c.args.checked.now in
    let tables = c.args.defs.now in
    let q = c.requires.query a is in
    let cnf = c.in-Ok.made.0 in
    let x = c.in-Satisfied.assignment in
    let clauses : IsClauses cnf (assumption_query d a tables) = subst (IsClauses cnf) q.term c.in-Ok.ensures.clauses in
    let found = subst (Answers cnf c.args.conflicts) c.in-Satisfied.is c.in_ok-assignment.ensures in
    let same : c.from.result ≡ _ = c.from.ensures ∙ c.in_ok-values-in-Satisfied.ensures ∙ values_are d a tables c.args.query.now q c.in-Ok.made.1 c.in-Ok.ensures.inputs x in (
      refl,
      subst (λ ns. OfTables d tables (λ defs. IsFalseAt d defs a ns)) (sym same)
          (c.queries_decide_assumptions.ensures.broken d tables c.design-design.ensures.resolves.rules (c.code_literals_fit.ensures.designs c.args.checked.now) c.requires.of c.args.number a is q.asked cnf clauses x found.1),
    )

pub returns-in-Unsat : goal.returns-in-Unsat
returns-in-Unsat c = λ a is.
    let d = design_of c.args.checked.now in
    let tables = c.args.defs.now in
    let q = c.requires.query a is in
    let cnf = c.in-Ok.made.0 in
    let clauses : IsClauses cnf (assumption_query d a tables) = subst (IsClauses cnf) q.term c.in-Ok.ensures.clauses in
    let refuted = subst (Answers cnf c.args.conflicts) c.in-Unsat.is c.in_ok-assignment.ensures in
    c.queries_decide_assumptions.ensures.met d tables c.design-design.ensures.resolves.rules (c.code_literals_fit.ensures.designs c.args.checked.now) c.requires.of c.args.number a is q.asked cnf clauses
    (λ x sat. c.derived_clauses_have_no_model.ensures cnf c.in-Unsat.field-0 x c.in-Ok.ensures.named refuted.derives sat)

pub returns : goal.returns
returns c = λ a is.
    let d = design_of c.args.checked.now in
    let q = c.requires.query a is in
    let cnf = c.in-Ok.made.0 in
    let clauses : IsClauses cnf (assumption_query d a c.args.defs.now) = subst (IsClauses cnf) q.term c.in-Ok.ensures.clauses in (
      refl,
      record {
        vars_are = clauses.vars_are;
        cnf = cnf;
        clauses_are = clauses;
        licensed = subst (Answers cnf c.args.conflicts) c.in-Spent.is c.in_ok-assignment.ensures;
      },
    )
