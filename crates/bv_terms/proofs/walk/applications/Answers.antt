use Rattle.std.proofs.Common.{Vec, ap, rules, ◌∙◌, ℕ}
use Rattle.std.specs.declared.alloc.Global.{Global}
use Rattle.bv_terms.proofs.Applied.{found-more, found-same}
use Rattle.bv_terms.proofs.walk.applications.Goals as goal
use Rattle.bv_terms.proofs.walk.applications.Goals.{then-is_application+in_ok-push, else-is_application}

pub loop-term-preserved : goal.loop-term-preserved
loop-term-preserved c = elim c.if-is_application.branch [
  | then-is_application+in_ok-push w ↦
      found-more c.args.terms.now c.deref-term-items.result.now c.loop-term.term-index c.loop-term-test.true c.loop-term.applications.items c.if-is_application.applications.items (search rules) (search rules)
      (ap (λ (v : Vec ℕ Global). v.items) w.applications-is ∙ w.in_ok-push.ensures.items) c.loop-term.invariant
  | else-is_application w ↦
      found-same c.args.terms.now c.deref-term-items.result.now c.loop-term.term-index c.loop-term-test.true c.loop-term.applications.items c.if-is_application.applications.items (search rules)
      (ap (λ (v : Vec ℕ Global). v.items) w.applications-is) c.loop-term.invariant
]
