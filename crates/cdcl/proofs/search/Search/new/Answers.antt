use Rattle.std.proofs.Common.{◌≡◌, Some, ap, arith, get_or, length, subst, sym}
use Rattle.std.specs.Prelude.{slice_get}
use Rattle.cnf_core.specs.Clauses.{literals}
use Rattle.cdcl.specs.States.{clauses_of}
use Rattle.cdcl.proofs.FirstClauses.{given-clause, given-count}
use Rattle.cdcl.proofs.search.Search.new.Goals as goal

pub watch_given-requires-clause-clause : goal.watch_given-requires-clause-clause
watch_given-requires-clause-clause c =
    let s = c.loop-clause.search in
    let cnf = c.args.cnf.now in
    let x = c.clause-item.result in
    subst (λ n. slice_get (clauses_of cnf s) n ≡ Some (literals x)) (sym c.loop-clause.invariant.at)
    (given-clause cnf s.steps.items c.loop-clause.clause-index x (omega (arith, c.loop-clause-test.true, ap length c.items-clause-items.ensures))
    (subst (λ xs. x ≡ get_or xs c.loop-clause.clause-index x) c.items-clause-items.ensures c.clause-item.is))

pub returns-clause-begins : goal.returns-clause-begins
returns-clause-begins c =
    let s = c.loop-clause.search in
    let cnf = c.args.cnf.now in
    let h = c.loop-clause.invariant in
    record {
      count = omega (arith, h.begun.count, h.at, c.loop-clause-test.false, ap length c.items-clause-items.ensures, given-count cnf s.steps.items h.begun.steps);
      watched = h.begun.watched;
    }

pub returns-then-not-is_watched-clause-begins : goal.returns-then-not-is_watched-clause-begins
returns-then-not-is_watched-clause-begins c =
    let new = c.watch_given.new.self in
    let cnf = c.args.cnf.now in
    let x = c.clause-item.result in
    let i = c.loop-clause.clause-index in (
      literals x,
      subst (λ n. slice_get (clauses_of cnf new) n ≡ Some (literals x)) (sym c.loop-clause.invariant.at)
          (given-clause cnf new.steps.items i x (omega (arith, c.loop-clause-test.true, ap length c.items-clause-items.ensures)) (subst (λ xs. x ≡ get_or xs i x) c.items-clause-items.ensures c.clause-item.is)),
      c.in_ok-is_watched.ensures.conflict c.if-not-is_watched.true,
    )
