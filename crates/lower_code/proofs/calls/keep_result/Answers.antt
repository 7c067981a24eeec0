use Rattle.std.proofs.Common.{[], ◌∷◌, ◌++◌, map, ap, ◌∙◌}
use Rattle.cocoon_syntax.specs.TreeOf.{result_of}
use Rattle.p4_ir.specs.P4Tree.{set_meta}
use Rattle.p4_ir.specs.Program.{expr_of, stmt_of}
use Rattle.lowering.specs.Lower.{read_back}
use Rattle.lower_code.specs.Growth.{counted, with_variable}
use Rattle.p4_ir.specs.declared.program.P4Stmt.{P4Stmt}
use Rattle.lower_code.proofs.Forms.{one_more, set_form}
use Rattle.lower_code.proofs.Steps.{if_ok}
use Rattle.lower_code.proofs.calls.keep_result.Goals as goal

pub returns : goal.returns
returns c = λ d.
    let kind = result_of c.args.kind in
    let made = c.in_ok-field.ensures.made d ∙ ap (with_variable (counted d c.args.to.now)) c.kind_width.ensures in
    let code = one_more c.args.code.now.items c.push.new.self.items (P4Stmt.SetMeta c.in_ok-field.field c.in_ok-value.value) (set_meta c.in_ok-field.field (expr_of c.in_ok-value.value)) c.in_ok-push.ensures.items (set_form c.in_ok-field.field c.in_ok-value.value)
    ∙ (λ i. map stmt_of c.args.code.now.items ++ set_meta (c.in_ok-field.ensures.number i) (c.in_ok-value.ensures i) ∷ []) in
    if_ok c.read_back.result c.read_back.ensures
    (λ e h. λ i. (record { code = code i; made = (made i).made; next = (made i).next }, (h ∙ ap (read_back kind) c.in_ok-field.ensures.number) i))
