use Rattle.std.proofs.Common.{◌≡◌, ◌∷◌, [], refl, rules, Err, Some}
use Rattle.cocoon_num.specs.Sorts.{truth_sort}
use Rattle.p4_ir.specs.Program as ir
use Rattle.p4_texts.specs.Meant.{expr_meant}
use Rattle.p4_texts.specs.TreeOf.{expr_of}
use Rattle.p4_resolve.specs.Judged.{StopsBy}
use Rattle.p4_resolve.specs.StmtForms.{condition_piece, value_fits}
use Rattle.p4_resolve.proofs.PieceFacts.{handed_on}
use Rattle.p4_resolve.proofs.StmtFacts as facts
use Rattle.p4_resolve.proofs.stmts.condition.Goals as goal

pub returns-clause-keeps : goal.returns-clause-keeps
returns-clause-keeps c = λ t d k.
    let e = expr_of c.args.expr.now in
    let v = c.in_ok-made.ensures.keeps t d k in
    record {
      is = v.is;
      passes = facts.value_passes t d (Some truth_sort) c.args.is_filled e (condition_piece t d e c.args.is_filled) c.args.at c.after-begin.result (ir.expr_of c.in_ok-made.made) c.in_ok-made.end c.after-next.result 2 2 v c.after-begin.ensures c.after-next.ensures (facts.condition_count e) refl;
    }

pub returns-in_err-made-clause-stops : goal.returns-in_err-made-clause-stops
returns-in_err-made-clause-stops c = λ t d k.
    let e = expr_of c.args.expr.now in
    let same : c.from_residual.result ≡ Err c.in_err-made.field-0.0 = search rules in
    handed_on c.from_residual.result c.in_err-made.field-0.0 (StopsBy c.args.at (condition_piece t d e c.args.is_filled ∷ [])) same
    (facts.value_stops (condition_piece t d e c.args.is_filled) c.args.at (value_fits d (Some truth_sort) c.args.is_filled (expr_meant t e)) c.in_err-made.field-0.0 refl (c.in_err-made.ensures.breaks t d k))
