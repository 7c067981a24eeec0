use Rattle.std.proofs.Common.{rules, ◌≡◌, true, false, codes, slice_get, refl, Some, None, Err}
use Rattle.cocoon_num.specs.Values.{flip, not_}
use Rattle.p4_texts.specs.Machine.{to_close, to_colon}
use Rattle.p4_texts.specs.Written.{w_lit}
use Rattle.p4_texts.specs.TreeOf.{expr_of}
use Rattle.p4_parse.specs.Phrases.{is_mark, literal_in, literal_of, mark_in, operator_at, range_goals, range_then}
use Rattle.p4_parse.proofs.Compose.{expr_fails, reads_as}
use Rattle.p4_parse.proofs.ExprPhrases.{binary_at, bracket_at, expr_ended, literal_read, opened_fails, pick_at, slice_refused, unary_at}
use Rattle.p4_parse.proofs.TreeForms.{lit_is}
use Rattle.p4_parse.proofs.exprs.+expr.Goals as goal

pub expr-returns-in_err-high-clause-is : goal.expr-returns-in_err-high-clause-is
expr-returns-in_err-high-clause-is t c =
    let m : is_mark (codes "[") (slice_get c.args.source.now c.slices.next) ≡ true = search rules in
    let e : c.from_residual-in_err-high.result ≡ Err c.in_err-high.field-0.0 = search rules in
    expr_fails range_goals range_then c.args.source.now c.args.pos _ _ c.in_err-high.field-0.0 e (λ i r. slice_refused c.args.source.now c.args.pos _ _ i c.slices.invariant.is m r) c.in_err-high.ensures

pub primary-returns-in-Some : goal.primary-returns-in-Some
primary-returns-in-Some t c =
    let e : literal_in (slice_get c.args.source.now c.args.pos) ≡ Some (literal_of c.in-Some.bits) = search rules in
    reads_as _ _ (w_lit c.in-Some.bits.width c.in-Some.bits.value) _ _ (lit_is c.in-Some.bits) (literal_read c.args.source.now c.args.pos (literal_of c.in-Some.bits) e)

pub primary-returns-then-is_mark : goal.primary-returns-then-is_mark
primary-returns-then-is_mark t c =
    let m : is_mark (codes "(") (slice_get c.args.source.now c.args.pos) ≡ true = search rules in
    bracket_at c.args.source.now c.args.pos _ m c.bracketed.ensures

pub bracketed-returns-then-is_mark : goal.bracketed-returns-then-is_mark
bracketed-returns-then-is_mark t c =
    let m : is_mark (codes "~") (slice_get c.args.source.now c.args.pos) ≡ true = search rules in
    unary_at flip c.args.source.now c.args.pos _ _ m refl c.operand.ensures c.unary.ensures

pub bracketed-returns-then-is_mark-2 : goal.bracketed-returns-then-is_mark-2
bracketed-returns-then-is_mark-2 t c =
    let m : is_mark (codes "!") (slice_get c.args.source.now c.args.pos) ≡ true = search rules in
    unary_at not_ c.args.source.now c.args.pos _ _ m refl c.operand-then-is_mark-2.ensures c.unary-then-is_mark-2.ensures

pub bracketed-returns-in_err-left : goal.bracketed-returns-in_err-left
bracketed-returns-in_err-left t c =
    let a : is_mark (codes "~") (slice_get c.args.source.now c.args.pos) ≡ false = search rules in
    let b : is_mark (codes "!") (slice_get c.args.source.now c.args.pos) ≡ false = search rules in
    let e : c.from_residual.result ≡ Err c.in_err-left.field-0.0 = search rules in
    opened_fails c.args.source.now c.args.pos _ c.in_err-left.field-0.0 e a b c.in_err-left.ensures.is

pub bracketed-returns-in-Some : goal.bracketed-returns-in-Some
bracketed-returns-in-Some t c =
    let o : operator_at (mark_in (slice_get c.args.source.now c.in_ok-left.next)) ≡ Some c.in-Some.op = search rules in
    binary_at c.args.source.now c.args.pos (expr_of c.in_ok-left.left) c.in_ok-left.next c.in-Some.op _ _ c.in_ok-left.ensures.is o c.operand-in-Some.ensures c.binary.ensures

pub bracketed-returns-in-None : goal.bracketed-returns-in-None
bracketed-returns-in-None t c =
    let o : operator_at (mark_in (slice_get c.args.source.now c.in_ok-left.next)) ≡ None = search rules in
    pick_at c.args.source.now c.args.pos (expr_of c.in_ok-left.left) c.in_ok-left.next _ _ c.in_ok-left.ensures.is c.in_ok-left.ensures.whole o c.sides.ensures c.pick.ensures

pub operand-returns : goal.operand-returns
operand-returns t c = expr_ended to_close (codes ")") c.args.source.now c.args.pos _ _ refl refl refl c.expr.ensures.is c.expr.ensures.whole c.then.ensures

pub choice-returns : goal.choice-returns
choice-returns t c = expr_ended to_colon (codes ":") c.args.source.now c.args.pos _ _ refl refl refl c.expr.ensures.is c.expr.ensures.whole c.then.ensures
