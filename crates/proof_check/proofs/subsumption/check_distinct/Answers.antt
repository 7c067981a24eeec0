use Rattle.std.proofs.Common.{rules, IsTrue, ◌<◌, ℕ, length, subst, sym, refl}
use Rattle.std.specs.Prelude.{◌↔◌}
use Rattle.std.proofs.lemmas.Bool.{both_ways, false≢true}
use Rattle.std.proofs.lemmas.Result.{IfOk-weaker}
use Rattle.cnf_core.specs.Deriving.{EachDerived}
use Rattle.cnf_core.specs.Licensing.{BringsNew, Licensed}
use Rattle.cnf_core.specs.declared.log.Step.{Step}
use Rattle.std.proofs.Common.{List}
use Rattle.proof_check.proofs.subsumption.check_distinct.Goals as goal

pub returns-then-branch : goal.returns-then-branch
returns-then-branch c =
    let cnf = c.args.cnf.now in
    let e = c.items-steps.ensures in
    let held : IsTrue c.in_ok-each_derived.field-0 = search rules in
    let derived = subst (EachDerived cnf) e (c.in_ok-each_derived.ensures.0 held) in
    let all_new : List Step → Type 0 = λ ss. (k : ℕ) → k < length ss → BringsNew cnf ss k in
    IfOk-weaker c.each_new.result (λ a. IsTrue a ↔ all_new c.items-steps.result.now) (λ a. IsTrue a ↔ Licensed cnf c.args.log.now (length c.args.log.now.steps))
    (λ a h. (λ t. record { exactly = refl; derived = derived; new = subst all_new e (h.0 t) }, λ d. h.1 (subst all_new (sym e) d.new)))
    c.each_new.ensures

pub returns-else-branch : goal.returns-else-branch
returns-else-branch c = (
  λ t. absurd (false≢true t),
  λ d. absurd (both_ways c.in_ok-each_derived.field-0 (search rules)
      (c.in_ok-each_derived.ensures.1 (subst (EachDerived c.args.cnf.now) (sym c.items-steps.ensures) d.derived))),
)
