use Rattle.std.proofs.Common.{◌≡◌, ◌∷◌, [], ◌∙◌, ap, ap₂, sym, subst, rules, arith, map, Err, IfErr, true, refl}
use Rattle.std.proofs.lemmas.List.{map-append}
use Rattle.p4_ir.specs.P4Tree as tree
use Rattle.p4_ir.specs.Program as ir
use Rattle.p4_ir.specs.declared.program.P4Stmt.TheVariants as code_stmts
use Rattle.p4_texts.specs.KindFaults.{Piece, block_pieces, stmt_pieces}
use Rattle.p4_texts.specs.Meant.{block_meant, expr_meant}
use Rattle.p4_texts.specs.Written as text
use Rattle.p4_texts.specs.TreeOf.{body_of, expr_of, stmt_of}
use Rattle.p4_resolve.specs.Judged.{Passes, StopsBy}
use Rattle.p4_resolve.specs.StmtForms.{StmtKeeps}
use Rattle.p4_resolve.proofs.PieceFacts.{handed_on}
use Rattle.p4_resolve.proofs.StmtFacts as facts
use Rattle.p4_resolve.proofs.TreeFacts as forms
use Rattle.p4_resolve.proofs.stmts.+stmts.Goals as goal

pub block-returns-in_err-stmt-clause-stops : goal.block-returns-in_err-stmt-clause-stops
block-returns-in_err-stmt-clause-stops t c = λ p d k.
    let ss = c.args.stmts.now in
    let same : c.from_residual.result ≡ Err c.in_err-stmt.field-0.0 = search rules in
    handed_on c.from_residual.result c.in_err-stmt.field-0.0 (StopsBy c.args.at (block_pieces p d (body_of ss))) same
    (facts.one_stops p d c.args.at ss (map ir.stmt_of c.loop-written.made.items) c.loop-written.next c.loop-written.written-index c.written-item.result c.in_err-stmt.field-0.0 c.loop-written-test.true c.written-item.is (c.loop-written.invariant p d k) (c.in_err-stmt.ensures.stops p d k))

pub block-loop-written-preserved : goal.block-loop-written-preserved
block-loop-written-preserved t c = λ p d k.
    let ss = c.args.stmts.now in
    let one = c.in_ok-stmt.ensures.keeps p d k in
    facts.one_more p d c.args.at ss (map ir.stmt_of c.loop-written.made.items) (map ir.stmt_of c.push.new.self.items) c.loop-written.next c.in_ok-stmt.end c.loop-written.written-index c.written-item.result (ir.stmt_of c.in_ok-stmt.stmt)
    c.loop-written-test.true c.written-item.is (c.loop-written.invariant p d k) one.is one.passes (ap (map ir.stmt_of) c.in_ok-push.ensures.items ∙ map-append ir.stmt_of c.loop-written.made.items (c.in_ok-stmt.stmt ∷ []))

pub block-returns-clause-keeps : goal.block-returns-clause-keeps
block-returns-clause-keeps t c = λ p d k.
    facts.all_done p d c.args.at c.args.stmts.now (map ir.stmt_of c.loop-written.made.items) c.loop-written.next c.loop-written.written-index (omega arith) (c.loop-written.invariant p d k)

pub stmt-returns-in_err-test-in-If-clause-stops : goal.stmt-returns-in_err-test-in-If-clause-stops
stmt-returns-in_err-test-in-If-clause-stops t c = λ p d k.
    let e = expr_of c.in-If.expr in
    let a = body_of c.in-If.first.items in
    let is = ap stmt_of c.in-If.is ∙ forms.if_is c.in-If.expr c.in-If.first in
    let same : c.from_residual.result ≡ Err c.in_err-test-in-If.field-0.0 = search rules in
    subst (λ s. IfErr c.from_residual.result (StopsBy c.args.at (stmt_pieces p d s))) (sym is)
    (handed_on c.from_residual.result c.in_err-test-in-If.field-0.0 (StopsBy c.args.at (stmt_pieces p d (text.w_if e a))) same
    (facts.if_condition_stops p d e a c.args.at c.in_err-test-in-If.field-0.0 (c.in_err-test-in-If.ensures.stops p d k)))

pub stmt-returns-in_err-first-in-If-clause-stops : goal.stmt-returns-in_err-first-in-If-clause-stops
stmt-returns-in_err-first-in-If-clause-stops t c = λ p d k.
    let e = expr_of c.in-If.expr in
    let a = body_of c.in-If.first.items in
    let is = ap stmt_of c.in-If.is ∙ forms.if_is c.in-If.expr c.in-If.first in
    let r = c.from_residual-in_err-first-in-If.result in
    let fault = c.in_err-first-in-If.field-0.0 in
    let same : c.from_residual-in_err-first-in-If.result ≡ Err c.in_err-first-in-If.field-0.0 = search rules in
    let inside = subst (λ ss. StopsBy c.in_ok-test-in-If.begin (block_pieces p d (body_of ss)) fault) c.deref.ensures.value (c.in_err-first-in-If.ensures.stops p d k) in
    subst (λ s. IfErr r (StopsBy c.args.at (stmt_pieces p d s))) (sym is)
    (handed_on r fault (StopsBy c.args.at (stmt_pieces p d (text.w_if e a))) same
    (facts.if_block_stops p d e a c.args.at c.in_ok-test-in-If.begin fault (c.in_ok-test-in-If.ensures.keeps p d k).passes inside))

pub stmt-returns-in_ok-first-in-If-clause-keeps : goal.stmt-returns-in_ok-first-in-If-clause-keeps
stmt-returns-in_ok-first-in-If-clause-keeps t c = λ p d k.
    let e = expr_of c.in-If.expr in
    let a = body_of c.in-If.first.items in
    let is = ap stmt_of c.in-If.is ∙ forms.if_is c.in-If.expr c.in-If.first in
    let test = c.in_ok-test-in-If.ensures.keeps p d k in
    let first = c.in_ok-first-in-If.ensures.keeps p d k in
    let inside = subst (λ ss. Passes c.in_ok-test-in-If.begin (block_pieces p d (body_of ss)) c.in_ok-first-in-If.close) c.deref.ensures.value first.passes in
    let meant = first.is ∙ ap (λ ss. block_meant p (body_of ss)) c.deref.ensures.value in
    subst (λ s. StmtKeeps p d s c.args.at (ir.stmt_of (code_stmts.If c.in_ok-test-in-If.test c.in_ok-first-in-If.first)) c.after-end.result) (sym is) (record {
      is = forms.if_code c.in_ok-test-in-If.test c.in_ok-first-in-If.first ∙ ap₂ tree.p_if test.is meant;
      passes = facts.if_passes p d e a c.args.at c.in_ok-test-in-If.begin c.in_ok-first-in-If.close c.after-end.result test.passes inside c.after-end.ensures;
    })

pub stmt-returns-in_err-test-in-IfElse-clause-stops : goal.stmt-returns-in_err-test-in-IfElse-clause-stops
stmt-returns-in_err-test-in-IfElse-clause-stops t c = λ p d k.
    let e = expr_of c.in-IfElse.expr in
    let a = body_of c.in-IfElse.first.items in
    let b = body_of c.in-IfElse.second.items in
    let is = ap stmt_of c.in-IfElse.is ∙ forms.if_else_is c.in-IfElse.expr c.in-IfElse.first c.in-IfElse.second in
    let filled = facts.filled_is p c.in-IfElse.second.items c.is_filled.result c.is_filled.ensures in
    let r = c.from_residual-in_err-test-in-IfElse.result in
    let fault = c.in_err-test-in-IfElse.field-0.0 in
    let same : c.from_residual-in_err-test-in-IfElse.result ≡ Err c.in_err-test-in-IfElse.field-0.0 = search rules in
    subst (λ s. IfErr r (StopsBy c.args.at (stmt_pieces p d s))) (sym is)
    (handed_on r fault (StopsBy c.args.at (stmt_pieces p d (text.w_if_else e a b))) same
    (facts.else_condition_stops p d e a b c.is_filled.result c.args.at fault filled (c.in_err-test-in-IfElse.ensures.stops p d k)))

pub stmt-returns-in_err-first-in-IfElse-clause-stops : goal.stmt-returns-in_err-first-in-IfElse-clause-stops
stmt-returns-in_err-first-in-IfElse-clause-stops t c = λ p d k.
    let e = expr_of c.in-IfElse.expr in
    let a = body_of c.in-IfElse.first.items in
    let b = body_of c.in-IfElse.second.items in
    let is = ap stmt_of c.in-IfElse.is ∙ forms.if_else_is c.in-IfElse.expr c.in-IfElse.first c.in-IfElse.second in
    let filled = facts.filled_is p c.in-IfElse.second.items c.is_filled.result c.is_filled.ensures in
    let r = c.from_residual-in_err-first-in-IfElse.result in
    let fault = c.in_err-first-in-IfElse.field-0.0 in
    let same : c.from_residual-in_err-first-in-IfElse.result ≡ Err c.in_err-first-in-IfElse.field-0.0 = search rules in
    subst (λ s. IfErr r (StopsBy c.args.at (stmt_pieces p d s))) (sym is)
    (handed_on r fault (StopsBy c.args.at (stmt_pieces p d (text.w_if_else e a b))) same
    (facts.else_first_stops p d e a b c.is_filled.result c.args.at c.in_ok-test-in-IfElse.begin fault filled (c.in_ok-test-in-IfElse.ensures.keeps p d k).passes (subst (λ ss. StopsBy c.in_ok-test-in-IfElse.begin (block_pieces p d (body_of ss)) fault) c.deref-in-IfElse.ensures.value (c.in_err-first-in-IfElse.ensures.stops p d k))))

pub stmt-returns-in_err-second-in-IfElse-clause-stops : goal.stmt-returns-in_err-second-in-IfElse-clause-stops
stmt-returns-in_err-second-in-IfElse-clause-stops t c = λ p d k.
    let e = expr_of c.in-IfElse.expr in
    let a = body_of c.in-IfElse.first.items in
    let b = body_of c.in-IfElse.second.items in
    let is = ap stmt_of c.in-IfElse.is ∙ forms.if_else_is c.in-IfElse.expr c.in-IfElse.first c.in-IfElse.second in
    let filled = facts.filled_is p c.in-IfElse.second.items c.is_filled.result c.is_filled.ensures in
    let test = c.in_ok-test-in-IfElse.ensures.keeps p d k in
    let first = c.in_ok-first-in-IfElse.ensures.keeps p d k in
    let inside = subst (λ ss. Passes c.in_ok-test-in-IfElse.begin (block_pieces p d (body_of ss)) c.in_ok-first-in-IfElse.close) c.deref-in-IfElse.ensures.value first.passes in
    let r = c.from_residual-in_err-second-in-IfElse.result in
    let fault = c.in_err-second-in-IfElse.field-0.0 in
    let same : c.from_residual-in_err-second-in-IfElse.result ≡ Err c.in_err-second-in-IfElse.field-0.0 = search rules in
    subst (λ s. IfErr r (StopsBy c.args.at (stmt_pieces p d s))) (sym is)
    (handed_on r fault (StopsBy c.args.at (stmt_pieces p d (text.w_if_else e a b))) same
    (facts.else_second_stops p d e a b c.is_filled.result c.args.at c.in_ok-test-in-IfElse.begin c.in_ok-first-in-IfElse.close c.after-other.result fault filled test.passes inside c.after-other.ensures (subst (λ ss. StopsBy c.after-other.result (block_pieces p d (body_of ss)) fault) c.deref-in-IfElse-2.ensures.value (c.in_err-second-in-IfElse.ensures.stops p d k))))

pub stmt-returns-in_ok-second-in-IfElse-clause-keeps : goal.stmt-returns-in_ok-second-in-IfElse-clause-keeps
stmt-returns-in_ok-second-in-IfElse-clause-keeps t c = λ p d k.
    let e = expr_of c.in-IfElse.expr in
    let a = body_of c.in-IfElse.first.items in
    let b = body_of c.in-IfElse.second.items in
    let is = ap stmt_of c.in-IfElse.is ∙ forms.if_else_is c.in-IfElse.expr c.in-IfElse.first c.in-IfElse.second in
    let filled = facts.filled_is p c.in-IfElse.second.items c.is_filled.result c.is_filled.ensures in
    let test = c.in_ok-test-in-IfElse.ensures.keeps p d k in
    let first = c.in_ok-first-in-IfElse.ensures.keeps p d k in
    let inside = subst (λ ss. Passes c.in_ok-test-in-IfElse.begin (block_pieces p d (body_of ss)) c.in_ok-first-in-IfElse.close) c.deref-in-IfElse.ensures.value first.passes in
    let second = c.in_ok-second-in-IfElse.ensures.keeps p d k in
    let other = subst (λ ss. Passes c.after-other.result (block_pieces p d (body_of ss)) c.in_ok-second-in-IfElse.last) c.deref-in-IfElse-2.ensures.value second.passes in
    let meant = first.is ∙ ap (λ ss. block_meant p (body_of ss)) c.deref-in-IfElse.ensures.value in
    let meant_second = second.is ∙ ap (λ ss. block_meant p (body_of ss)) c.deref-in-IfElse-2.ensures.value in
    subst (λ s. StmtKeeps p d s c.args.at (ir.stmt_of (code_stmts.IfElse c.in_ok-test-in-IfElse.test c.in_ok-first-in-IfElse.first c.in_ok-second-in-IfElse.second)) c.after-end-in-IfElse.result) (sym is) (record {
      is = forms.if_else_code c.in_ok-test-in-IfElse.test c.in_ok-first-in-IfElse.first c.in_ok-second-in-IfElse.second
          ∙ ap (λ x. tree.p_if_else x (ir.block_of (map ir.stmt_of c.in_ok-first-in-IfElse.first.items)) (ir.block_of (map ir.stmt_of c.in_ok-second-in-IfElse.second.items))) test.is
          ∙ ap₂ (tree.p_if_else (expr_meant p e)) meant meant_second;
      passes = facts.else_passes p d e a b c.is_filled.result c.args.at c.in_ok-test-in-IfElse.begin c.in_ok-first-in-IfElse.close c.after-other.result c.in_ok-second-in-IfElse.last c.after-end-in-IfElse.result filled test.passes inside c.after-other.ensures other c.after-end-in-IfElse.ensures;
    })

pub stmt-returns-in-Return-clause-keeps : goal.stmt-returns-in-Return-clause-keeps
stmt-returns-in-Return-clause-keeps t c = λ p d k.
    let x : Piece = record { tokens = text.stmt_then text.w_return []; keeps = true } in
    subst (λ s. StmtKeeps p d s c.args.at (ir.stmt_of code_stmts.Return) c.after.result) (sym (ap stmt_of c.in-Return.is ∙ forms.return_is)) (record {
      is = forms.return_code;
      passes = facts.one_passes x c.args.at c.after.result refl c.after.ensures;
    })
