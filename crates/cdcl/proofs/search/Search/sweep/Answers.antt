use Rattle.std.proofs.Common.{◌<◌, ◌≡◌, ap, arith, get_or, length, subst}
use Rattle.std.specs.Prelude.{slice_get, Some}
use Rattle.cnf_core.specs.Clauses.{literals}
use Rattle.cdcl.specs.States.{clauses_of}
use Rattle.cdcl.proofs.FirstClauses.{given-clause}
use Rattle.cdcl.proofs.search.Search.sweep.Goals as goal
use Rattle.cdcl.proofs.search.Search.sweep.Goals.{then-back, else-back}

pub sweep_clause-requires-clause-clause : goal.sweep_clause-requires-clause-clause
sweep_clause-requires-clause-clause c =
    let cnf = c.args.cnf.now in
    let x = c.index-clauses-number.result in
    let within : c.if-back.number < length cnf.clauses = elim c.if-back.branch [
      | then-back w ↦ omega (arith, w.number-is, c.loop-place-test.true, ap length c.items-clauses.ensures)
      | else-back w ↦ omega (arith, w.number-is, c.loop-place-test.true, ap length c.items-clauses.ensures)
    ] in
    given-clause cnf c.loop-place.self.steps.items c.if-back.number x within
    (subst (λ xs. x ≡ get_or xs c.if-back.number x) c.items-clauses.ensures c.index-clauses-number.is)

pub returns-then-not-branch-clause-conflict : goal.returns-then-not-branch-clause-conflict
returns-then-not-branch-clause-conflict c =
    let cnf = c.args.cnf.now in
    let x = c.index-clauses-number.result in
    let within : c.if-back.number < length cnf.clauses = elim c.if-back.branch [
      | then-back w ↦ omega (arith, w.number-is, c.loop-place-test.true, ap length c.items-clauses.ensures)
      | else-back w ↦ omega (arith, w.number-is, c.loop-place-test.true, ap length c.items-clauses.ensures)
    ] in (
      literals x,
      given-clause cnf c.sweep_clause.new.self.steps.items c.if-back.number x within
          (subst (λ xs. x ≡ get_or xs c.if-back.number x) c.items-clauses.ensures c.index-clauses-number.is),
      c.in_ok-sweep_clause.ensures.conflict c.if-not-branch.true,
    )
