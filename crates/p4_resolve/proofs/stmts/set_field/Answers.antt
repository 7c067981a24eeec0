use Rattle.std.proofs.Common.{◌≡◌, [], ◌∙◌, ap, ap₂, rules, true, Err}
use Rattle.p4_ir.specs.P4Kinds as rules
use Rattle.p4_ir.specs.P4Tree as tree
use Rattle.p4_ir.specs.Program as ir
use Rattle.p4_kinds.specs.Typed.{sort_of}
use Rattle.p4_texts.specs.KindFaults.{Piece, stmt_keeps, stmt_pieces}
use Rattle.p4_texts.specs.Meant.{expr_meant, field_at, header_at}
use Rattle.p4_texts.specs.Written as text
use Rattle.p4_texts.specs.TreeOf.{expr_of}
use Rattle.p4_resolve.specs.Judged.{StopsBy}
use Rattle.p4_resolve.specs.StmtForms.{value_fits}
use Rattle.p4_resolve.proofs.PieceFacts.{handed_on}
use Rattle.p4_resolve.proofs.StmtFacts as facts
use Rattle.p4_resolve.proofs.TreeFacts as forms
use Rattle.p4_resolve.proofs.stmts.set_field.Goals as goal

pub returns-clause-keeps : goal.returns-clause-keeps
returns-clause-keeps c = λ t d k.
    let e = expr_of c.args.expr.now in
    let h = c.header-header.ensures t d k in
    let f = c.field-field.ensures t d k ∙ ap (λ n. field_at t n c.args.field.now) h in
    let s = text.w_set_field c.args.header.now c.args.field.now e in
    let x : Piece = record { tokens = text.stmt_then s []; keeps = stmt_keeps t d s } in
    let v = c.in_ok-made.ensures.keeps t d k in
    record {
      is = forms.set_field_code c.header-header.result c.field-field.result c.in_ok-made.made ∙ ap₂ (λ m n. tree.set_header m n (ir.expr_of c.in_ok-made.made)) h f ∙ ap (tree.set_header (header_at t c.args.header.now) (field_at t (header_at t c.args.header.now) c.args.field.now)) v.is;
      passes = facts.value_passes t d (sort_of c.field_sort-sort.result) true e x c.args.at c.after-begin.result (ir.expr_of c.in_ok-made.made) c.in_ok-made.end c.after-next.result 6 1 v c.after-begin.ensures c.after-next.ensures (facts.field_count c.args.header.now c.args.field.now e) (facts.field_fits t d c.args.header.now c.args.field.now e (sort_of c.field_sort-sort.result) (c.field_sort-sort.ensures t d k ∙ ap₂ (rules.field_sort d.program) h f));
    }

pub returns-in_err-made-clause-stops : goal.returns-in_err-made-clause-stops
returns-in_err-made-clause-stops c = λ t d k.
    let e = expr_of c.args.expr.now in
    let h = c.header-header.ensures t d k in
    let f = c.field-field.ensures t d k ∙ ap (λ n. field_at t n c.args.field.now) h in
    let s = text.w_set_field c.args.header.now c.args.field.now e in
    let x : Piece = record { tokens = text.stmt_then s []; keeps = stmt_keeps t d s } in
    let same : c.from_residual.result ≡ Err c.in_err-made.field-0.0 = search rules in
    handed_on c.from_residual.result c.in_err-made.field-0.0 (StopsBy c.args.at (stmt_pieces t d s)) same
    (facts.value_stops x c.args.at (value_fits d (sort_of c.field_sort-sort.result) true (expr_meant t e)) c.in_err-made.field-0.0 (facts.field_fits t d c.args.header.now c.args.field.now e (sort_of c.field_sort-sort.result) (c.field_sort-sort.ensures t d k ∙ ap₂ (rules.field_sort d.program) h f)) (c.in_err-made.ensures.breaks t d k))
