use Rattle.std.proofs.Common.{map, sym, ap, ◌∙◌}
use Rattle.cocoon_syntax.specs.TreeOf.{expr_of, exprs_of}
use Rattle.lowering.specs.LowerBlock.{exprs_before_last}
use Rattle.lower_code.proofs.BeforeLast.{exprs_back}
use Rattle.lower_code.proofs.blocks.exprs_before_last.Goals as goal

pub returns-in-Some : goal.returns-in-Some
returns-in-Some c =
    exprs_back expr_of c.in-Some.before.now c.in-Some.field-0-0.now ∙ ap (λ xs. exprs_before_last (exprs_of (map expr_of xs))) (sym c.in-Some.ensures.cases.0)
