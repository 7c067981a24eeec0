use Rattle.std.proofs.Common.{◌≡◌, suc, List, [], ◌∷◌, ◌++◌, map, ap, ◌∙◌, arith}
use Rattle.cocoon_syntax.specs.TreeOf.{param_of}
use Rattle.p4_ir.specs.P4Tree as tree
use Rattle.p4_ir.specs.Program.{expr_of, stmt_of}
use Rattle.lowering.specs.Lower.{result_name}
use Rattle.lower_code.specs.Growth.{Counted, counted, so_far, with_field}
use Rattle.p4_ir.specs.declared.program.P4Stmt.{P4Stmt}
use Rattle.cocoon_num.specs.Tree.{Design}
use Rattle.lower_code.proofs.Forms.{apply_form, one_more}
use Rattle.lower_code.proofs.Steps.{table_step}
use Rattle.lower_code.proofs.calls.apply_table.Goals as goal

pub returns-clause-state : goal.returns-clause-state
returns-clause-state c = λ d.
    let app = c.args.to.now.counts.app in
    let next : c.in_ok-to.field-0 ≡ suc app = omega arith in
    table_step (so_far d c.args.to.now c.args.code.now.items) (map expr_of c.args.args.items) (map param_of c.args.params.now) c.args.width c.in_ok-to.field-0
    (map stmt_of c.push.new.self.items) (counted d c.make_field.new.self)
    (one_more c.set_fields.new.code.items c.push.new.self.items (P4Stmt.Apply app) (tree.apply_table app) c.in_ok-push.ensures.items (apply_form app) ∙ ap (λ (xs : List tree.P4Stmt). xs ++ tree.apply_table app ∷ []) c.in_ok-set_fields.ensures)
    (c.in_ok-result.ensures.made d ∙ ap (λ s. with_field s (result_name app) c.args.width) (c.in_ok-make_keys.ensures d))
    next

pub returns-clause-table : goal.returns-clause-table
returns-clause-table c =
    let d : Design = record { headers = []; decls = []; refines = [] } in
    (λ i. record {
      number = c.args.to.now.counts.app;
      exact = c.args.exact;
      keys = (c.from-keys.ensures ∙ c.in_ok-numbers.ensures) i;
      result = (c.in_ok-result.ensures.number ∙ ap (λ (s : Counted). s.next.field) (c.in_ok-make_keys.ensures d)) i;
    })
