use Rattle.std.proofs.Common.{◌≡◌, ◌∙◌, ap, rules, subst, sym}
use Rattle.p4_ir.specs.P4Tree.{p_pick}
use Rattle.p4_ir.specs.Program.{expr_of, program_of}
use Rattle.p4_ir.specs.declared.program.P4Expr as exprs
use Rattle.shared_net.specs.Merging.{expr_merged}
use Rattle.text_lines.specs.Printing.{Prints}
use Rattle.p4_emit.specs.Printed.{expr_text}
use Rattle.p4_emit.proofs.Printing.{followed}
use Rattle.p4_emit.proofs.print.+expr.Goals as goal

pub returns-in-Pick : goal.returns-in-Pick
returns-in-Pick t c =
    let s = c.args.switch.now.number in
    let is : expr_of c.args.expr.now ≡ p_pick (expr_of c.deref-in-Pick.result.now) (expr_of c.deref-in-Pick-2.result.now) (expr_of c.deref-in-Pick-3.result.now) = search (rules, exprs.the_lemmas) in
    let first : c.deref-in-Pick-4.result.now ≡ c.deref-in-Pick.result.now = search rules in
    let second : c.deref-in-Pick-5.result.now ≡ c.deref-in-Pick-2.result.now = search rules in
    let third : c.deref-in-Pick-6.result.now ≡ c.deref-in-Pick-3.result.now = search rules in
    subst (λ e. Prints c.args.out.now (expr_text (program_of c.args.switch.now.program.now) e) c.push-in-Pick-4.new.self)
    (sym (ap (λ e. expr_merged s e (expr_of c.args.other.now)) is ∙ c.picked.ensures s))
    (followed c.push-in-Pick.ensures (followed (rw first at c.emit_expr-in-Pick.ensures) (followed c.push-in-Pick-2.ensures (followed (rw second at c.emit_expr-in-Pick-2.ensures)
    (followed c.push-in-Pick-3.ensures (followed (rw third at c.emit_expr-in-Pick-3.ensures) c.push-in-Pick-4.ensures))))))
