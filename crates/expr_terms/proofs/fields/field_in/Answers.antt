use Rattle.std.proofs.Common.{◌≡◌, ◌<◌, ◌≤◌, ◌∙◌, false, length, min, rules, arith}
use Rattle.cocoon_num.specs.Names.{same_name}
use Rattle.cocoon_syntax.specs.TreeOf.{param_of}
use Rattle.bv_terms.specs.Arenas.{term_at}
use Rattle.expr_terms.proofs.Lists.{field_end, field_past}
use Rattle.expr_terms.proofs.fields.field_in.Goals as goal

pub loop-at-preserved : goal.loop-at-preserved
loop-at-preserved c =
    let other : same_name c.args.field.now c.index-params-at.result.name.text ≡ false = search rules in
    let params : c.loop-at.at < length c.args.params.now = grind arith in
    let terms : c.loop-at.at < length c.args.terms.now = grind arith in
    record {
      within = grind arith;
      same = λ nodes.
          c.loop-at.invariant.same nodes
          ∙ field_past param_of (term_at nodes) c.args.params.now c.args.terms.now c.loop-at.at c.index-params-at.result c.args.field.now params terms c.index-params-at.is other;
    }

pub returns-clause-found : goal.returns-clause-found
returns-clause-found c = λ nodes.
    let end : min (length c.args.params.now) (length c.args.terms.now) ≤ c.loop-at.at = grind arith in
    c.loop-at.invariant.same nodes ∙ field_end param_of (term_at nodes) c.args.params.now c.args.terms.now c.loop-at.at c.args.field.now end
