use Rattle.std.proofs.Common.{◌≡◌, ◌≤◌, ◌<◌, ◌+◌, ◌*◌, ◌&&◌, suc, not, true, IsTrue, map, rules, subst, sym, ap, arith}
use Rattle.std.proofs.lemmas.Bool.{and_parts}
use Rattle.std.proofs.lemmas.List.{take_all}
use Rattle.cocoon_num.specs.Sorts.{bits_sort, has_sort, truth_sort}
use Rattle.p4_ir.specs.Loading.{table_numbers}
use Rattle.p4_ir.specs.NetOf.{table_rows_of}
use Rattle.p4_ir.specs.P4Kinds.{block_fits, field_sort, is_empty, meta_sort, p4_sort, stmt_fits}
use Rattle.p4_ir.specs.P4Tree.{apply_table, egress_port, group, p_if, p_if_else, set_header, set_meta}
use Rattle.p4_ir.specs.Program.{block_of, expr_of, stmt_of}
use Rattle.p4_ir.specs.declared.program.P4Stmt as stmts
use Rattle.p4_run.specs.Resolving.{GivesTruths, program_at}
use Rattle.p4_run.specs.Meaning.{truth_by}
use Rattle.p4_run.specs.Controls.{within_in}
use Rattle.p4_run.specs.Doing.{Does, DoesAll, EachDoes}
use Rattle.p4_run.specs.Effects.{stmt_by, stmts_by}
use Rattle.p4_run.specs.declared.stmt_codes.StmtCode.TheVariants.{SetMeta, SetField, Apply, IfElse, EgressPort, Group}
use Rattle.p4_run.proofs.DoingFacts.{Alike, all_do, does_apply, does_egress_port, does_group, does_if_else, does_set_field, does_set_meta, field_alike, first_fits, has_sort_some, meta_alike, pushed}
use Rattle.p4_run.proofs.StmtSizes.{block_size, one_of, stmt_size}
use Rattle.p4_run.proofs.stmt_resolving.+resolve.Goals as goal

pub resolved_stmts-resolved_stmt-requires : goal.resolved_stmts-resolved_stmt-requires
resolved_stmts-resolved_stmt-requires t c =
    let w = within_in (program_at c.args.names.now) c.args.names.now.in_ingress in
    let kinds : IsTrue (stmt_fits w (stmt_of c.stmt-item.result)) =
    (first_fits w c.args.stmts.now c.loop-stmt.stmt-index c.stmt-item.result c.loop-stmt-test.true c.stmt-item.is c.loop-stmt.invariant.kinds).0 in
    let small : stmt_size (stmt_of c.stmt-item.result) ≤ block_size (block_of (map stmt_of c.args.stmts.now)) =
    one_of c.args.stmts.now c.loop-stmt.stmt-index c.stmt-item.result c.loop-stmt-test.true c.stmt-item.is in
    search rules

pub resolved_stmts-loop-stmt-preserved : goal.resolved_stmts-loop-stmt-preserved
resolved_stmts-loop-stmt-preserved t c =
    let p = program_at c.args.names.now in
    let b = c.args.names.now.in_ingress in
    let rows = map table_rows_of c.args.rows.now in
    record {
      kinds = (first_fits (within_in p b) c.args.stmts.now c.loop-stmt.stmt-index c.stmt-item.result c.loop-stmt-test.true c.stmt-item.is c.loop-stmt.invariant.kinds).1;
      each = pushed p rows b c.args.tables.now c.args.stmts.now c.loop-stmt.codes.items c.push.new.self.items c.loop-stmt.stmt-index c.stmt-item.result c.in_ok-resolved_stmt.field-0
          c.loop-stmt-test.true c.stmt-item.is c.in_ok-push.ensures.items c.loop-stmt.invariant.each c.in_ok-resolved_stmt.ensures;
    }

pub resolved_stmts-returns : goal.resolved_stmts-returns
resolved_stmts-returns t c =
    let p = program_at c.args.names.now in
    let b = c.args.names.now.in_ingress in
    let rows = map table_rows_of c.args.rows.now in
    let fs = map stmt_by c.loop-stmt.codes.items in
    all_do p rows b c.args.tables.now (map stmt_of c.args.stmts.now) fs
    (subst (λ ss. EachDoes p rows b c.args.tables.now (map stmt_of ss) fs) (take_all c.loop-stmt.stmt-index c.args.stmts.now c.loop-stmt-test.false) c.loop-stmt.invariant.each)

pub resolved_stmt-resolved_number-requires-clause-sort : goal.resolved_stmt-resolved_number-requires-clause-sort
resolved_stmt-resolved_number-requires-clause-sort t c =
    let p = program_at c.args.names.now in
    let b = c.args.names.now.in_ingress in
    let w = within_in p b in
    let is : stmt_of c.args.stmt.now ≡ set_meta c.in-SetMeta.index (expr_of c.in-SetMeta.value) = search (rules, stmts.the_lemmas, c.in-SetMeta.is) in
    let fits : stmt_fits w (set_meta c.in-SetMeta.index (expr_of c.in-SetMeta.value)) ≡ true = subst (λ s. stmt_fits w s ≡ true) is c.requires.kinds in
    let both : Alike (meta_sort p c.in-SetMeta.index) (p4_sort w (expr_of c.in-SetMeta.value)) = meta_alike p b c.in-SetMeta.index (expr_of c.in-SetMeta.value) fits in
    (both.width, both.second)

pub resolved_stmt-resolved_number-requires-in-SetField-clause-sort : goal.resolved_stmt-resolved_number-requires-in-SetField-clause-sort
resolved_stmt-resolved_number-requires-in-SetField-clause-sort t c =
    let p = program_at c.args.names.now in
    let b = c.args.names.now.in_ingress in
    let w = within_in p b in
    let is : stmt_of c.args.stmt.now ≡ set_header c.in-SetField.header c.in-SetField.field (expr_of c.in-SetField.value) = search (rules, stmts.the_lemmas, c.in-SetField.is) in
    let fits : stmt_fits w (set_header c.in-SetField.header c.in-SetField.field (expr_of c.in-SetField.value)) ≡ true = subst (λ s. stmt_fits w s ≡ true) is c.requires.kinds in
    let both : Alike (field_sort p c.in-SetField.header c.in-SetField.field) (p4_sort w (expr_of c.in-SetField.value)) =
    field_alike p b c.in-SetField.header c.in-SetField.field (expr_of c.in-SetField.value) fits in
    (both.width, both.second)

pub resolved_stmt-resolved_number-requires-in-EgressPort-clause-sort : goal.resolved_stmt-resolved_number-requires-in-EgressPort-clause-sort
resolved_stmt-resolved_number-requires-in-EgressPort-clause-sort t c =
    let p = program_at c.args.names.now in
    let b = c.args.names.now.in_ingress in
    let w = within_in p b in
    let is : stmt_of c.args.stmt.now ≡ egress_port (expr_of c.in-EgressPort.value) = search (rules, stmts.the_lemmas, c.in-EgressPort.is) in
    let fits : stmt_fits w (egress_port (expr_of c.in-EgressPort.value)) ≡ true = subst (λ s. stmt_fits w s ≡ true) is c.requires.kinds in
    (16, has_sort_some (bits_sort 16) (p4_sort w (expr_of c.in-EgressPort.value)) fits)

pub resolved_stmt-resolved_number-requires-in-Group-clause-sort : goal.resolved_stmt-resolved_number-requires-in-Group-clause-sort
resolved_stmt-resolved_number-requires-in-Group-clause-sort t c =
    let p = program_at c.args.names.now in
    let b = c.args.names.now.in_ingress in
    let w = within_in p b in
    let is : stmt_of c.args.stmt.now ≡ group (expr_of c.in-Group.value) = search (rules, stmts.the_lemmas, c.in-Group.is) in
    let fits : stmt_fits w (group (expr_of c.in-Group.value)) ≡ true = subst (λ s. stmt_fits w s ≡ true) is c.requires.kinds in
    (16, has_sort_some (bits_sort 16) (p4_sort w (expr_of c.in-Group.value)) (and_parts b (has_sort (bits_sort 16) (p4_sort w (expr_of c.in-Group.value))) fits).1)

pub resolved_stmt-resolved_stmts-requires : goal.resolved_stmt-resolved_stmts-requires
resolved_stmt-resolved_stmts-requires t c =
    let p = program_at c.args.names.now in
    let b = c.args.names.now.in_ingress in
    let w = within_in p b in
    let is : stmt_of c.args.stmt.now ≡ p_if (expr_of c.in-If.condition) (block_of (map stmt_of c.in-If.first.items)) = search (rules, stmts.the_lemmas, c.in-If.is) in
    let fits : stmt_fits w (p_if (expr_of c.in-If.condition) (block_of (map stmt_of c.in-If.first.items))) ≡ true = subst (λ s. stmt_fits w s ≡ true) is c.requires.kinds in
    let first = block_of (map stmt_of c.in-If.first.items) in
    let kinds : IsTrue (block_fits w (block_of (map stmt_of c.deref.result.now))) =
    subst (λ ss. IsTrue (block_fits w (block_of (map stmt_of ss)))) (sym c.deref.ensures.value) (and_parts (has_sort truth_sort (p4_sort w (expr_of c.in-If.condition))) (block_fits w first) fits).1 in
    let size : stmt_size (stmt_of c.args.stmt.now) ≡ suc (block_size first) = ap stmt_size is in
    let own : block_size (block_of (map stmt_of c.deref.result.now)) ≡ block_size first = ap (λ ss. block_size (block_of (map stmt_of ss))) c.deref.ensures.value in
    let small : 2 * block_size (block_of (map stmt_of c.deref.result.now)) + 1 < 2 * stmt_size (stmt_of c.args.stmt.now) = omega (arith, size, own) in
    search rules

pub resolved_stmt-resolved_truth-requires-in-IfElse-clause-sort : goal.resolved_stmt-resolved_truth-requires-in-IfElse-clause-sort
resolved_stmt-resolved_truth-requires-in-IfElse-clause-sort t c =
    let p = program_at c.args.names.now in
    let b = c.args.names.now.in_ingress in
    let w = within_in p b in
    let is : stmt_of c.args.stmt.now ≡ p_if_else (expr_of c.in-IfElse.condition) (block_of (map stmt_of c.in-IfElse.first.items)) (block_of (map stmt_of c.in-IfElse.second.items)) =
    search (rules, stmts.the_lemmas, c.in-IfElse.is) in
    let fits : stmt_fits w (p_if_else (expr_of c.in-IfElse.condition) (block_of (map stmt_of c.in-IfElse.first.items)) (block_of (map stmt_of c.in-IfElse.second.items))) ≡ true =
    subst (λ s. stmt_fits w s ≡ true) is c.requires.kinds in
    let first = block_of (map stmt_of c.in-IfElse.first.items) in
    let second = block_of (map stmt_of c.in-IfElse.second.items) in
    let truth_is = has_sort truth_sort (p4_sort w (expr_of c.in-IfElse.condition)) in
    let outer = and_parts (truth_is && block_fits w first && not (is_empty second)) (block_fits w second) fits in
    let inner = and_parts (truth_is && block_fits w first) (not (is_empty second)) outer.0 in
    let leading = and_parts truth_is (block_fits w first) inner.0 in
    has_sort_some truth_sort (p4_sort w (expr_of c.in-IfElse.condition)) leading.0

pub resolved_stmt-resolved_stmts-requires-in-IfElse : goal.resolved_stmt-resolved_stmts-requires-in-IfElse
resolved_stmt-resolved_stmts-requires-in-IfElse t c =
    let p = program_at c.args.names.now in
    let b = c.args.names.now.in_ingress in
    let w = within_in p b in
    let is : stmt_of c.args.stmt.now ≡ p_if_else (expr_of c.in-IfElse.condition) (block_of (map stmt_of c.in-IfElse.first.items)) (block_of (map stmt_of c.in-IfElse.second.items)) =
    search (rules, stmts.the_lemmas, c.in-IfElse.is) in
    let fits : stmt_fits w (p_if_else (expr_of c.in-IfElse.condition) (block_of (map stmt_of c.in-IfElse.first.items)) (block_of (map stmt_of c.in-IfElse.second.items))) ≡ true =
    subst (λ s. stmt_fits w s ≡ true) is c.requires.kinds in
    let first = block_of (map stmt_of c.in-IfElse.first.items) in
    let second = block_of (map stmt_of c.in-IfElse.second.items) in
    let truth_is = has_sort truth_sort (p4_sort w (expr_of c.in-IfElse.condition)) in
    let outer = and_parts (truth_is && block_fits w first && not (is_empty second)) (block_fits w second) fits in
    let inner = and_parts (truth_is && block_fits w first) (not (is_empty second)) outer.0 in
    let leading = and_parts truth_is (block_fits w first) inner.0 in
    let kinds : IsTrue (block_fits w (block_of (map stmt_of c.deref-in-IfElse.result.now))) =
    subst (λ ss. IsTrue (block_fits w (block_of (map stmt_of ss)))) (sym c.deref-in-IfElse.ensures.value) leading.1 in
    let size : stmt_size (stmt_of c.args.stmt.now) ≡ suc (block_size first + block_size second) = ap stmt_size is in
    let own : block_size (block_of (map stmt_of c.deref-in-IfElse.result.now)) ≡ block_size first = ap (λ ss. block_size (block_of (map stmt_of ss))) c.deref-in-IfElse.ensures.value in
    let small : 2 * block_size (block_of (map stmt_of c.deref-in-IfElse.result.now)) + 1 < 2 * stmt_size (stmt_of c.args.stmt.now) = omega (arith, size, own) in
    search rules

pub resolved_stmt-resolved_stmts-requires-in-IfElse-2 : goal.resolved_stmt-resolved_stmts-requires-in-IfElse-2
resolved_stmt-resolved_stmts-requires-in-IfElse-2 t c =
    let p = program_at c.args.names.now in
    let b = c.args.names.now.in_ingress in
    let w = within_in p b in
    let is : stmt_of c.args.stmt.now ≡ p_if_else (expr_of c.in-IfElse.condition) (block_of (map stmt_of c.in-IfElse.first.items)) (block_of (map stmt_of c.in-IfElse.second.items)) =
    search (rules, stmts.the_lemmas, c.in-IfElse.is) in
    let fits : stmt_fits w (p_if_else (expr_of c.in-IfElse.condition) (block_of (map stmt_of c.in-IfElse.first.items)) (block_of (map stmt_of c.in-IfElse.second.items))) ≡ true =
    subst (λ s. stmt_fits w s ≡ true) is c.requires.kinds in
    let first = block_of (map stmt_of c.in-IfElse.first.items) in
    let second = block_of (map stmt_of c.in-IfElse.second.items) in
    let truth_is = has_sort truth_sort (p4_sort w (expr_of c.in-IfElse.condition)) in
    let outer = and_parts (truth_is && block_fits w first && not (is_empty second)) (block_fits w second) fits in
    let inner = and_parts (truth_is && block_fits w first) (not (is_empty second)) outer.0 in
    let leading = and_parts truth_is (block_fits w first) inner.0 in
    let kinds : IsTrue (block_fits w (block_of (map stmt_of c.deref-in-IfElse-2.result.now))) =
    subst (λ ss. IsTrue (block_fits w (block_of (map stmt_of ss)))) (sym c.deref-in-IfElse-2.ensures.value) outer.1 in
    let size : stmt_size (stmt_of c.args.stmt.now) ≡ suc (block_size first + block_size second) = ap stmt_size is in
    let own : block_size (block_of (map stmt_of c.deref-in-IfElse-2.result.now)) ≡ block_size second = ap (λ ss. block_size (block_of (map stmt_of ss))) c.deref-in-IfElse-2.ensures.value in
    let small : 2 * block_size (block_of (map stmt_of c.deref-in-IfElse-2.result.now)) + 1 < 2 * stmt_size (stmt_of c.args.stmt.now) = omega (arith, size, own) in
    search rules

pub resolved_stmt-returns-in_ok-code-in-SetMeta : goal.resolved_stmt-returns-in_ok-code-in-SetMeta
resolved_stmt-returns-in_ok-code-in-SetMeta t c =
    let p = program_at c.args.names.now in
    let b = c.args.names.now.in_ingress in
    let w = within_in p b in
    let rows = map table_rows_of c.args.rows.now in
    let tables = c.args.tables.now in
    let is : stmt_of c.args.stmt.now ≡ set_meta c.in-SetMeta.index (expr_of c.in-SetMeta.value) = search (rules, stmts.the_lemmas, c.in-SetMeta.is) in
    let fits : stmt_fits w (set_meta c.in-SetMeta.index (expr_of c.in-SetMeta.value)) ≡ true = subst (λ s. stmt_fits w s ≡ true) is c.requires.kinds in
    let code = c.in_ok-code-in-SetMeta.code in
    let both : Alike (meta_sort p c.in-SetMeta.index) (p4_sort w (expr_of c.in-SetMeta.value)) = meta_alike p b c.in-SetMeta.index (expr_of c.in-SetMeta.value) fits in
    subst (λ s. Does p rows b tables s (stmt_by (SetMeta c.in-SetMeta.index code))) (sym is)
    (does_set_meta p rows b tables c.in-SetMeta.index both.width (expr_of c.in-SetMeta.value) code c.requires.names.widths both.first (c.in_ok-code-in-SetMeta.ensures both.width both.second))

pub resolved_stmt-returns-in_ok-code-in-SetField : goal.resolved_stmt-returns-in_ok-code-in-SetField
resolved_stmt-returns-in_ok-code-in-SetField t c =
    let p = program_at c.args.names.now in
    let b = c.args.names.now.in_ingress in
    let w = within_in p b in
    let rows = map table_rows_of c.args.rows.now in
    let tables = c.args.tables.now in
    let is : stmt_of c.args.stmt.now ≡ set_header c.in-SetField.header c.in-SetField.field (expr_of c.in-SetField.value) = search (rules, stmts.the_lemmas, c.in-SetField.is) in
    let fits : stmt_fits w (set_header c.in-SetField.header c.in-SetField.field (expr_of c.in-SetField.value)) ≡ true = subst (λ s. stmt_fits w s ≡ true) is c.requires.kinds in
    let code = c.in_ok-code-in-SetField.code in
    let place = c.in_ok-place-in-SetField.place in
    let both : Alike (field_sort p c.in-SetField.header c.in-SetField.field) (p4_sort w (expr_of c.in-SetField.value)) =
    field_alike p b c.in-SetField.header c.in-SetField.field (expr_of c.in-SetField.value) fits in
    subst (λ s. Does p rows b tables s (stmt_by (SetField place code))) (sym is)
    (does_set_field p rows b tables c.args.names.now.starts.now c.in-SetField.header c.in-SetField.field place both.width (expr_of c.in-SetField.value) code c.requires.names.widths
    c.requires.names.starts c.in_ok-place-in-SetField.ensures both.first (c.in_ok-code-in-SetField.ensures both.width both.second))

pub resolved_stmt-returns-in-Apply : goal.resolved_stmt-returns-in-Apply
resolved_stmt-returns-in-Apply t c =
    let p = program_at c.args.names.now in
    let b = c.args.names.now.in_ingress in
    let w = within_in p b in
    let rows = map table_rows_of c.args.rows.now in
    let tables = c.args.tables.now in
    let is : stmt_of c.args.stmt.now ≡ apply_table c.in-Apply.number = search (rules, stmts.the_lemmas, c.in-Apply.is) in
    let fits : stmt_fits w (apply_table c.in-Apply.number) ≡ true = subst (λ s. stmt_fits w s ≡ true) is c.requires.kinds in
    let own = c.requires.tables c.in-Apply.number fits in
    subst (λ s. Does p rows b tables s (stmt_by (Apply c.place.result))) (sym is)
    (does_apply p rows b tables c.in-Apply.number c.place.result own.0 own.1 own.2 (c.place.ensures.first (table_numbers rows) c.requires.places))

pub resolved_stmt-returns-in_ok-second-in-IfElse : goal.resolved_stmt-returns-in_ok-second-in-IfElse
resolved_stmt-returns-in_ok-second-in-IfElse t c =
    let p = program_at c.args.names.now in
    let b = c.args.names.now.in_ingress in
    let w = within_in p b in
    let rows = map table_rows_of c.args.rows.now in
    let tables = c.args.tables.now in
    let first = block_of (map stmt_of c.in-IfElse.first.items) in
    let second = block_of (map stmt_of c.in-IfElse.second.items) in
    let code = c.in_ok-code-in-IfElse.code in
    let made = c.in_ok-first-in-IfElse.first in
    let other = c.in_ok-second-in-IfElse.second in
    let is : stmt_of c.args.stmt.now ≡ p_if_else (expr_of c.in-IfElse.condition) (block_of (map stmt_of c.in-IfElse.first.items)) (block_of (map stmt_of c.in-IfElse.second.items)) =
    search (rules, stmts.the_lemmas, c.in-IfElse.is) in
    let condition : GivesTruths p b (expr_of c.in-IfElse.condition) (truth_by code) = c.in_ok-code-in-IfElse.ensures in
    let one : DoesAll p rows b tables first (stmts_by (map stmt_by made.items)) =
    subst (λ ss. DoesAll p rows b tables (block_of (map stmt_of ss)) (stmts_by (map stmt_by made.items))) c.deref-in-IfElse.ensures.value c.in_ok-first-in-IfElse.ensures in
    let two : DoesAll p rows b tables second (stmts_by (map stmt_by other.items)) =
    subst (λ ss. DoesAll p rows b tables (block_of (map stmt_of ss)) (stmts_by (map stmt_by other.items))) c.deref-in-IfElse-2.ensures.value c.in_ok-second-in-IfElse.ensures in
    subst (λ s. Does p rows b tables s (stmt_by (IfElse code made other))) (sym is)
    (does_if_else p rows b tables (expr_of c.in-IfElse.condition) first second code made other condition one two)

pub resolved_stmt-returns-in_ok-resolved_number-in-EgressPort : goal.resolved_stmt-returns-in_ok-resolved_number-in-EgressPort
resolved_stmt-returns-in_ok-resolved_number-in-EgressPort t c =
    let p = program_at c.args.names.now in
    let b = c.args.names.now.in_ingress in
    let w = within_in p b in
    let rows = map table_rows_of c.args.rows.now in
    let tables = c.args.tables.now in
    let is : stmt_of c.args.stmt.now ≡ egress_port (expr_of c.in-EgressPort.value) = search (rules, stmts.the_lemmas, c.in-EgressPort.is) in
    let fits : stmt_fits w (egress_port (expr_of c.in-EgressPort.value)) ≡ true = subst (λ s. stmt_fits w s ≡ true) is c.requires.kinds in
    let e = expr_of c.in-EgressPort.value in
    let code = c.in_ok-resolved_number-in-EgressPort.field-0 in
    subst (λ s. Does p rows b tables s (stmt_by (EgressPort code))) (sym is)
    (does_egress_port p rows b tables e code (c.in_ok-resolved_number-in-EgressPort.ensures 16 (has_sort_some (bits_sort 16) (p4_sort w e) fits)))

pub resolved_stmt-returns-in_ok-resolved_number-in-Group : goal.resolved_stmt-returns-in_ok-resolved_number-in-Group
resolved_stmt-returns-in_ok-resolved_number-in-Group t c =
    let p = program_at c.args.names.now in
    let b = c.args.names.now.in_ingress in
    let w = within_in p b in
    let rows = map table_rows_of c.args.rows.now in
    let tables = c.args.tables.now in
    let is : stmt_of c.args.stmt.now ≡ group (expr_of c.in-Group.value) = search (rules, stmts.the_lemmas, c.in-Group.is) in
    let fits : stmt_fits w (group (expr_of c.in-Group.value)) ≡ true = subst (λ s. stmt_fits w s ≡ true) is c.requires.kinds in
    let e = expr_of c.in-Group.value in
    let code = c.in_ok-resolved_number-in-Group.field-0 in
    subst (λ s. Does p rows b tables s (stmt_by (Group code))) (sym is)
    (does_group p rows b tables e code (c.in_ok-resolved_number-in-Group.ensures 16 (has_sort_some (bits_sort 16) (p4_sort w e) (and_parts b (has_sort (bits_sort 16) (p4_sort w e)) fits).1)))
