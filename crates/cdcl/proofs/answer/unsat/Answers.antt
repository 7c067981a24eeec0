use Rattle.std.proofs.Common.{◌+◌, ◌<◌, List, ap, arith, length, subst, sym, ℕ}
use Rattle.cnf_core.specs.Deriving.{EachDerived, EndsEmpty}
use Rattle.cnf_core.specs.Licensing.{BringsNew}
use Rattle.cnf_core.specs.declared.log.Step.{Step}
use Rattle.cdcl.proofs.answer.unsat.Goals as goal

pub returns : goal.returns
returns c = λ conflicts less.
    let cnf = c.args.cnf.now in
    let log = c.into_log.ensures in
    let r = c.in_ok-refute.ensures in
    let before : List Step → Type 0 = λ ss. (k : ℕ) → k + 1 < length ss → BringsNew cnf ss k in
    record {
      within = omega (arith, ap length log, r.one, less);
      derives = (subst (EachDerived cnf) (sym log) r.derived, subst EndsEmpty (sym log) r.ends);
      new = subst before (sym log) r.new_before;
    }
