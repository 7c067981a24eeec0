use Rattle.std.proofs.Common.{◌≡◌, [], ◌∙◌, ap, rules, true, Err, Some}
use Rattle.cocoon_num.specs.Sorts.{bits_sort}
use Rattle.p4_ir.specs.P4Tree as tree
use Rattle.p4_ir.specs.Program as ir
use Rattle.p4_texts.specs.KindFaults.{Piece, stmt_keeps, stmt_pieces}
use Rattle.p4_texts.specs.Meant.{expr_meant}
use Rattle.p4_texts.specs.Written as text
use Rattle.p4_texts.specs.TreeOf.{expr_of}
use Rattle.p4_resolve.specs.Judged.{StopsBy}
use Rattle.p4_resolve.specs.StmtForms.{value_fits}
use Rattle.p4_resolve.proofs.PieceFacts.{handed_on}
use Rattle.p4_resolve.proofs.StmtFacts as facts
use Rattle.p4_resolve.proofs.TreeFacts as forms
use Rattle.p4_resolve.proofs.stmts.egress_port.Goals as goal

pub returns-clause-keeps : goal.returns-clause-keeps
returns-clause-keeps c = λ t d k.
    let e = expr_of c.args.expr.now in
    let s = text.w_egress_port e in
    let x : Piece = record { tokens = text.stmt_then s []; keeps = stmt_keeps t d s } in
    let v = c.in_ok-made.ensures.keeps t d k in
    record {
      is = forms.egress_port_code c.in_ok-made.made ∙ ap tree.egress_port v.is;
      passes = facts.value_passes t d (Some (bits_sort 16)) true e x c.args.at c.after-begin.result (ir.expr_of c.in_ok-made.made) c.in_ok-made.end c.after-next.result 2 1 v c.after-begin.ensures c.after-next.ensures (facts.port_count e) (facts.port_fits t d e);
    }

pub returns-in_err-made-clause-stops : goal.returns-in_err-made-clause-stops
returns-in_err-made-clause-stops c = λ t d k.
    let e = expr_of c.args.expr.now in
    let s = text.w_egress_port e in
    let x : Piece = record { tokens = text.stmt_then s []; keeps = stmt_keeps t d s } in
    let same : c.from_residual.result ≡ Err c.in_err-made.field-0.0 = search rules in
    handed_on c.from_residual.result c.in_err-made.field-0.0 (StopsBy c.args.at (stmt_pieces t d s)) same
    (facts.value_stops x c.args.at (value_fits d (Some (bits_sort 16)) true (expr_meant t e)) c.in_err-made.field-0.0 (facts.port_fits t d e) (c.in_err-made.ensures.breaks t d k))
