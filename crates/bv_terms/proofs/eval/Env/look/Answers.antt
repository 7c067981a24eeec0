use Rattle.std.proofs.Common.{ap, ◌∙◌}
use Rattle.cocoon_num.specs.BitsOf.{value_of}
use Rattle.bv_terms.proofs.TableFacts.{looked-value, table-read}
use Rattle.bv_terms.proofs.eval.Env.look.Goals as goal

pub returns : goal.returns
returns c =
    let h = c.requires in
    ap value_of c.look.ensures
    ∙ looked-value c.args.self.now c.args.function h.0 c.args.args.now c.args.width c.in-Some.table h.1
    (table-read c.args.self.now c.items.result.now c.args.function c.in-Some.table c.index-items-function.result c.items.ensures h.0 c.args.width h.1
    c.index-items-function.is c.in-Some.is)
