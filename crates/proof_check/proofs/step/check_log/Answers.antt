use Rattle.std.proofs.Common.{IsTrue, subst, sym}
use Rattle.std.specs.Prelude.{◌↔◌}
use Rattle.std.proofs.lemmas.Result.{IfOk-weaker}
use Rattle.cnf_core.specs.Deriving.{Derives, EachDerived, EndsEmpty}
use Rattle.proof_check.proofs.step.check_log.Goals as goal

pub returns-then-ends_empty : goal.returns-then-ends_empty
returns-then-ends_empty c =
    let e = c.items-steps.ensures in
    let ends = subst EndsEmpty e (c.ends_empty.ensures.0 c.if-ends_empty.true) in
    IfOk-weaker c.each_derived.result (λ a. IsTrue a ↔ EachDerived c.args.cnf.now c.items-steps.result.now) (λ a. IsTrue a ↔ Derives c.args.cnf.now c.args.log.now)
    (λ a h. (λ t. (subst (EachDerived c.args.cnf.now) e (h.0 t), ends), λ d. h.1 (subst (EachDerived c.args.cnf.now) (sym e) d.0)))
    c.each_derived.ensures
