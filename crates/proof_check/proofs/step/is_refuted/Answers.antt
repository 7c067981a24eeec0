use Rattle.std.proofs.Common.{rules, IsTrue, Ok, ap, subst, sym}
use Rattle.std.specs.Prelude.{◌↔◌}
use Rattle.std.proofs.lemmas.Result.{IfOk-weaker}
use Rattle.cnf_core.specs.Clauses.{literals}
use Rattle.cnf_core.specs.Deriving.{Follows, Refutes}
use Rattle.cnf_core.specs.TrailViews.{room, trues}
use Rattle.proof_check.specs.KnownClauses.{clauses_of}
use Rattle.proof_check.proofs.step.is_refuted.Goals as goal

pub returns-then-branch-clause-exact : goal.returns-then-branch-clause-exact
returns-then-branch-clause-exact c =
    let cs = clauses_of c.args.known.now in
    let clause = literals c.args.step.now.clause in
    let hs = c.args.step.now.hints in
    let held : IsTrue c.in_ok-make_false.field-0 = search rules in
    let falsified = c.in_ok-make_false.ensures.trues (ap Ok held) in
    IfOk-weaker c.propagates.result (λ a. IsTrue a ↔ Refutes cs (trues c.make_false.new.trail) c.items.result.now)
    (λ a. IsTrue a ↔ Follows (room c.args.trail.now) cs clause hs)
    (λ a h. (
      λ t. record {
        proper = c.in_ok-make_false.ensures.proper.0 held;
        refuted = subst (λ ts. Refutes cs ts hs) falsified (subst (Refutes cs (trues c.make_false.new.trail)) c.items.ensures (h.0 t));
      },
      λ f. h.1 (subst (Refutes cs (trues c.make_false.new.trail)) (sym c.items.ensures) (subst (λ ts. Refutes cs ts hs) (sym falsified) f.refuted)),
    ))
    c.propagates.ensures.exact
