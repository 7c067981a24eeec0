use Rattle.std.proofs.Common.{◌≤◌, ◌∙◌, length, min, ap, sym, arith}
use Rattle.cocoon_syntax.specs.TreeOf.{param_of}
use Rattle.bv_terms.specs.Arenas.{term_at}
use Rattle.expr_terms.specs.Variables.{variables_of}
use Rattle.expr_terms.proofs.Lists.{bound_end}
use Rattle.expr_terms.proofs.variables.bind.Goals as goal

pub loop-at-init : goal.loop-at-init
loop-at-init c =
    let end : min (length c.args.params.now) (length c.args.args.now) ≤ c.min-at.result = grind arith in
    record {
      params = grind arith;
      args = grind arith;
      bound = λ nodes. ap (variables_of nodes) c.new-bound.ensures.items ∙ sym (bound_end param_of (term_at nodes) c.args.params.now c.args.args.now c.min-at.result end);
      there = λ nodes h k d l. absurd (let e = ap length c.new-bound.ensures.items in omega (arith, e, l));
    }
