use Rattle.std.proofs.Common.{◌≡◌, [], ◌∙◌, ap, ap₂, rules, true, Err}
use Rattle.p4_ir.specs.P4Kinds as rules
use Rattle.p4_ir.specs.P4Tree as tree
use Rattle.p4_ir.specs.Program as ir
use Rattle.p4_kinds.specs.Typed.{sort_of}
use Rattle.p4_texts.specs.KindFaults.{Piece, stmt_keeps, stmt_pieces}
use Rattle.p4_texts.specs.Meant.{expr_meant}
use Rattle.p4_texts.specs.Written as text
use Rattle.p4_texts.specs.TreeOf.{expr_of}
use Rattle.p4_resolve.specs.Judged.{StopsBy}
use Rattle.p4_resolve.specs.StmtForms.{value_fits}
use Rattle.p4_resolve.proofs.PieceFacts.{handed_on}
use Rattle.p4_resolve.proofs.StmtFacts as facts
use Rattle.p4_resolve.proofs.TreeFacts as forms
use Rattle.p4_resolve.proofs.stmts.set_meta.Goals as goal

pub returns-clause-keeps : goal.returns-clause-keeps
returns-clause-keeps c = λ t d k.
    let e = expr_of c.args.expr.now in
    let i = c.meta-index.ensures t d k in
    let s = text.w_set_meta c.args.name.now e in
    let x : Piece = record { tokens = text.stmt_then s []; keeps = stmt_keeps t d s } in
    let v = c.in_ok-made.ensures.keeps t d k in
    record {
      is = forms.set_meta_code c.meta-index.result c.in_ok-made.made ∙ ap₂ tree.set_meta i v.is;
      passes = facts.value_passes t d (sort_of c.meta_sort.result) true e x c.args.at c.after-begin.result (ir.expr_of c.in_ok-made.made) c.in_ok-made.end c.after-next.result 4 1 v c.after-begin.ensures c.after-next.ensures (facts.meta_count c.args.name.now e) (facts.meta_fits t d c.args.name.now e (sort_of c.meta_sort.result) (c.meta_sort.ensures t d k ∙ ap (rules.meta_sort d.program) i));
    }

pub returns-in_err-made-clause-stops : goal.returns-in_err-made-clause-stops
returns-in_err-made-clause-stops c = λ t d k.
    let e = expr_of c.args.expr.now in
    let i = c.meta-index.ensures t d k in
    let s = text.w_set_meta c.args.name.now e in
    let x : Piece = record { tokens = text.stmt_then s []; keeps = stmt_keeps t d s } in
    let same : c.from_residual.result ≡ Err c.in_err-made.field-0.0 = search rules in
    handed_on c.from_residual.result c.in_err-made.field-0.0 (StopsBy c.args.at (stmt_pieces t d s)) same
    (facts.value_stops x c.args.at (value_fits d (sort_of c.meta_sort.result) true (expr_meant t e)) c.in_err-made.field-0.0 (facts.meta_fits t d c.args.name.now e (sort_of c.meta_sort.result) (c.meta_sort.ensures t d k ∙ ap (rules.meta_sort d.program) i)) (c.in_err-made.ensures.breaks t d k))
