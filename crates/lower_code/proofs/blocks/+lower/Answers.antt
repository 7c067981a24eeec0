use Rattle.std.proofs.Common.{◌≡◌, ◌+◌, ◌≤◌, List, [], ◌∷◌, map, drop, take, length, sym, ap, ◌∙◌, rules}
use Rattle.cocoon_num.specs.Tree.{set_field, if_, filter, fork}
use Rattle.cocoon_syntax.specs.declared.stmt.StmtKind as kinds
use Rattle.cocoon_syntax.specs.TreeOf as tree
use Rattle.p4_ir.specs.P4Tree.{set_header}
use Rattle.p4_ir.specs.Program.{expr_of, stmt_of}
use Rattle.lowering.specs.Lower as lower
use Rattle.lowering.specs.Lower.{Counts, Variable}
use Rattle.lowering.specs.LowerBlock as block
use Rattle.lower_code.specs.Blocks.{BlockSoFar, block_so_far, with_block, with_effect}
use Rattle.lower_code.specs.Growth.{so_far, with_expr}
use Rattle.lower_code.specs.Scopes.{callees_in, design_in}
use Rattle.lower_code.specs.Variables.{variables_of}
use Rattle.lower_code.proofs.BlockSteps.{block_step, effect_step, if_step}
use Rattle.lower_code.proofs.Scoped.{block_rises, cut_back}
use Rattle.lower_code.proofs.Sizes.{block_nodes, one_stmt, stmt_nodes}
use Rattle.lower_code.proofs.Steps.{mapped_from}
use Rattle.lower_code.proofs.blocks.+lower.Goals as goal

pub lower_block-lower_stmt-requires : goal.lower_block-lower_stmt-requires
lower_block-lower_stmt-requires t c =
    let small : stmt_nodes (tree.stmt_of c.stmt-item.result) ≤ block_nodes (tree.block_of (map tree.stmt_of c.args.stmts.now)) =
    one_stmt tree.stmt_of c.args.stmts.now c.loop-stmt.stmt-index c.stmt-item.result c.loop-stmt-test.true c.stmt-item.is in
    search rules

pub lower_block-loop-stmt-preserved : goal.lower_block-loop-stmt-preserved
lower_block-loop-stmt-preserved t c =
    let s = c.args.scope.now in
    let d = design_in s in
    let i = c.loop-stmt.stmt-index in
    let x = c.stmt-item.result in
    let before = block_so_far d c.loop-stmt.to c.loop-stmt.code.items c.loop-stmt.frame in
    let after = block_so_far d c.lower_stmt.new.to c.lower_stmt.new.code.items c.lower_stmt.new.frame in
    let rest = tree.block_of (map tree.stmt_of (drop (i + 1) c.args.stmts.now)) in
    c.loop-stmt.invariant
    ∙ ap (λ xs. with_block before (block.lower_block (callees_in s) before.vars before.lowered.next (tree.block_of xs))) (mapped_from tree.stmt_of c.args.stmts.now i x c.loop-stmt-test.true c.stmt-item.is)
    ∙ block_step before after (block.lower_stmt (callees_in s) before.vars before.lowered.next (tree.stmt_of x))
    (λ (vs : List Variable) (k : Counts). block.lower_block (callees_in s) vs k rest) c.in_ok-lower_stmt.ensures

pub lower_branch-returns : goal.lower_branch-returns
lower_branch-returns t c =
    let s = c.args.scope.now in
    let d = design_in s in
    let old = c.args.frame.now.variables.items in
    let new = c.lower_block.new.frame.variables.items in
    let before = block_so_far d c.args.to.now [] c.args.frame.now in
    let lowered = block.lower_block (callees_in s) before.vars before.lowered.next (tree.block_of (map tree.stmt_of c.args.stmts.now)) in
    let known : block_so_far d c.lower_block.new.to c.lower_block.new.code.items c.lower_block.new.frame ≡ with_block before lowered = search rules in
    let more = block_rises (callees_in s) before.vars before.lowered.next (tree.block_of (map tree.stmt_of c.args.stmts.now)) in
    let count : c.len-count.result ≡ length old = search rules in
    let vars = ap variables_of (c.truncate.ensures.items ∙ ap (λ k. take k new) count) ∙ cut_back old new more.0 (ap (λ (b : BlockSoFar). b.vars) known ∙ more.1) in
    (λ i. record { lowered = (known i).lowered; vars = vars i; sites = (known i).sites })

pub lower_if-returns : goal.lower_if-returns
lower_if-returns t c =
    let s = c.args.scope.now in
    let d = design_in s in
    let before = block_so_far d c.args.to.now c.args.code.now.items c.args.frame.now in
    let z = so_far d c.lower_expr.new.to c.lower_expr.new.code.items in
    let one = block_so_far d c.lower_branch.new.to c.in_ok-first.first.items c.lower_branch.new.frame in
    let two = block_so_far d c.lower_branch-2.new.to c.in_ok-second.second.items c.lower_branch-2.new.frame in
    let e = tree.expr_of c.args.condition.now in
    let known = c.in_ok-condition.ensures ∙ ap (λ vs. with_expr before.lowered (lower.lower_expr (callees_in s) (variables_of vs) before.lowered.next e)) c.deref.ensures.value in
    if_step before z (expr_of c.in_ok-condition.condition) (lower.lower_expr (callees_in s) before.vars before.lowered.next e)
    (λ (vs : List Variable) (k : Counts). block.lower_block (callees_in s) vs k (tree.block_of (map tree.stmt_of c.args.first.now)))
    (λ (vs : List Variable) (k : Counts). block.lower_block (callees_in s) vs k (tree.block_of (map tree.stmt_of c.args.second.now)))
    one two (map stmt_of c.push_if.new.code.items) known c.in_ok-first.ensures c.in_ok-second.ensures c.in_ok-push_if.ensures

pub lower_stmt-returns-in_ok-lower_set_field-in-SetField : goal.lower_stmt-returns-in_ok-lower_set_field-in-SetField
lower_stmt-returns-in_ok-lower_set_field-in-SetField t c =
    let s = c.args.scope.now in
    let d = design_in s in
    let before = block_so_far d c.args.to.now c.args.code.now.items c.args.frame.now in
    let e = tree.expr_of c.in-SetField.value in
    let is : tree.stmt_of c.args.stmt.now ≡ set_field c.args.stmt.now.at (tree.name_of c.in-SetField.header) (tree.name_of c.in-SetField.field) e = search (rules, kinds.the_lemmas, c.in-SetField.is) in
    let f = λ (v : _). set_header (lower.header_place d.headers c.in-SetField.header.text) (lower.field_place d.headers c.in-SetField.header.text c.in-SetField.field.text) v ∷ [] in
    effect_step before (so_far d c.lower_set_field.new.to c.lower_set_field.new.code.items) f (lower.lower_expr (callees_in s) before.vars before.lowered.next e)
    (c.in_ok-lower_set_field-in-SetField.ensures ∙ ap (λ vs. with_effect before.lowered f (lower.lower_expr (callees_in s) (variables_of vs) before.lowered.next e)) c.deref.ensures.value)
    ∙ ap (λ z. with_block before (block.lower_stmt (callees_in s) before.vars before.lowered.next z)) (sym is)

pub lower_stmt-returns-in_ok-lower_if-in-If : goal.lower_stmt-returns-in_ok-lower_if-in-If
lower_stmt-returns-in_ok-lower_if-in-If t c =
    let s = c.args.scope.now in
    let before = block_so_far (design_in s) c.args.to.now c.args.code.now.items c.args.frame.now in
    let e = tree.expr_of c.in-If.condition in
    let block_in = λ (xs : _). tree.block_of (map tree.stmt_of xs) in
    let is : tree.stmt_of c.args.stmt.now ≡ if_ c.args.stmt.now.at e (block_in c.in-If.first.items) (block_in c.in-If.second.items) = search (rules, kinds.the_lemmas, c.in-If.is) in
    c.in_ok-lower_if-in-If.ensures
    ∙ (λ i. with_block before (block.lower_stmt (callees_in s) before.vars before.lowered.next (if_ 0 e (block_in (c.deref-in-If.ensures.value i)) (block_in (c.deref-in-If-2.ensures.value i)))))
    ∙ ap (λ z. with_block before (block.lower_stmt (callees_in s) before.vars before.lowered.next z)) (sym is)

pub lower_stmt-returns-in_ok-lower_filter-in-Filter : goal.lower_stmt-returns-in_ok-lower_filter-in-Filter
lower_stmt-returns-in_ok-lower_filter-in-Filter t c =
    let s = c.args.scope.now in
    let d = design_in s in
    let before = block_so_far d c.args.to.now c.args.code.now.items c.args.frame.now in
    let e = tree.expr_of c.in-Filter.condition in
    let is : tree.stmt_of c.args.stmt.now ≡ filter c.args.stmt.now.at e = search (rules, kinds.the_lemmas, c.in-Filter.is) in
    effect_step before (so_far d c.lower_filter.new.to c.lower_filter.new.code.items) block.filter_code (lower.lower_expr (callees_in s) before.vars before.lowered.next e)
    (c.in_ok-lower_filter-in-Filter.ensures ∙ ap (λ vs. with_effect before.lowered block.filter_code (lower.lower_expr (callees_in s) (variables_of vs) before.lowered.next e)) c.deref-in-Filter.ensures.value)
    ∙ ap (λ z. with_block before (block.lower_stmt (callees_in s) before.vars before.lowered.next z)) (sym is)

pub lower_stmt-returns-in_ok-lower_fork-in-Fork : goal.lower_stmt-returns-in_ok-lower_fork-in-Fork
lower_stmt-returns-in_ok-lower_fork-in-Fork t c =
    let s = c.args.scope.now in
    let before = block_so_far (design_in s) c.args.to.now c.args.code.now.items c.args.frame.now in
    let e = tree.expr_of c.in-Fork.choice in
    let block_in = λ (xs : _). tree.block_of (map tree.stmt_of xs) in
    let is : tree.stmt_of c.args.stmt.now ≡ fork c.args.stmt.now.at (tree.name_of c.in-Fork.name) c.in-Fork.width e (block_in c.in-Fork.body.items) = search (rules, kinds.the_lemmas, c.in-Fork.is) in
    c.in_ok-lower_fork-in-Fork.ensures
    ∙ (λ i. with_block before (block.lower_stmt (callees_in s) before.vars before.lowered.next (fork 0 (tree.name_of c.in-Fork.name) c.in-Fork.width e (block_in (c.deref-in-Fork.ensures.value i)))))
    ∙ ap (λ z. with_block before (block.lower_stmt (callees_in s) before.vars before.lowered.next z)) (sym is)
