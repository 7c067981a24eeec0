use Rattle.std.proofs.Common.{◌≡◌, ◌+◌, ◌||◌, true, false, drop, map, rules, sym, ap, ◌∙◌}
use Rattle.cocoon_num.specs.Lists.{is_one_of}
use Rattle.cocoon_num.specs.Names.{same_name}
use Rattle.cocoon_num.specs.Tree.{Stmt, fork}
use Rattle.cocoon_syntax.specs.TreeOf.{block_of, expr_of, name_of, stmt_of}
use Rattle.cocoon_syntax.specs.declared.stmt.StmtKind as kinds
use Rattle.cocoon_types.specs.LastLevel.{called}
use Rattle.runtime_defs.specs.Sets.{forks_in, forks_of}
use Rattle.lower_code.proofs.Steps.{mapped_from}
use Rattle.lower_rows.proofs.Forking.{fork-cons, forks-cons}
use Rattle.lower_rows.proofs.forked.+forked.Goals as goal

pub block_forks-returns-then-stmt_forks : goal.block_forks-returns-then-stmt_forks
block_forks-returns-then-stmt_forks t c =
    let x = c.stmt-item.result in
    let i = c.loop-stmt.stmt-index in
    let rest = block_of (map stmt_of (drop (i + 1) c.args.stmts.now)) in
    let here : is_one_of (forks_of (stmt_of x)) c.args.name.now ≡ true = search rules in
    sym (c.loop-stmt.invariant
    ∙ ap (λ ss. is_one_of (forks_in (block_of ss)) c.args.name.now) (mapped_from stmt_of c.args.stmts.now i x c.loop-stmt-test.true c.stmt-item.is)
    ∙ forks-cons (stmt_of x) rest c.args.name.now ∙ ap (λ b. b || is_one_of (forks_in rest) c.args.name.now) here)

pub block_forks-loop-stmt-preserved : goal.block_forks-loop-stmt-preserved
block_forks-loop-stmt-preserved t c =
    let x = c.stmt-item.result in
    let i = c.loop-stmt.stmt-index in
    let rest = block_of (map stmt_of (drop (i + 1) c.args.stmts.now)) in
    let here : is_one_of (forks_of (stmt_of x)) c.args.name.now ≡ false = search rules in
    c.loop-stmt.invariant
    ∙ ap (λ ss. is_one_of (forks_in (block_of ss)) c.args.name.now) (mapped_from stmt_of c.args.stmts.now i x c.loop-stmt-test.true c.stmt-item.is)
    ∙ forks-cons (stmt_of x) rest c.args.name.now ∙ ap (λ b. b || is_one_of (forks_in rest) c.args.name.now) here

pub stmt_forks-returns-then-is_same : goal.stmt_forks-returns-then-is_same
stmt_forks-returns-then-is_same t c =
    let x = c.args.name.now in
    let e = expr_of c.in-Fork.choice in
    let b = block_of (map stmt_of c.in-Fork.body.items) in
    let is : stmt_of c.args.stmt.now ≡ fork c.args.stmt.now.at (name_of c.in-Fork.field-0) c.in-Fork.field-1 e b = search (rules, kinds.the_lemmas, c.in-Fork.is) in
    let same : same_name (called e) x ≡ true = search rules in
    c.if-is_same.true ∙ sym (ap (λ (s : Stmt). is_one_of (forks_of s) x) is ∙ fork-cons c.args.stmt.now.at (name_of c.in-Fork.field-0) c.in-Fork.field-1 e b x ∙ ap (λ a. a || is_one_of (forks_in b) x) same)

pub stmt_forks-returns-else-is_same : goal.stmt_forks-returns-else-is_same
stmt_forks-returns-else-is_same t c =
    let x = c.args.name.now in
    let e = expr_of c.in-Fork.choice in
    let b = block_of (map stmt_of c.in-Fork.body.items) in
    let is : stmt_of c.args.stmt.now ≡ fork c.args.stmt.now.at (name_of c.in-Fork.field-0) c.in-Fork.field-1 e b = search (rules, kinds.the_lemmas, c.in-Fork.is) in
    let other : same_name (called e) x ≡ false = search rules in
    c.block_forks-else-is_same.ensures ∙ ap (λ ss. is_one_of (forks_in (block_of (map stmt_of ss))) x) c.deref-else-is_same.ensures.value
    ∙ sym (ap (λ (s : Stmt). is_one_of (forks_of s) x) is ∙ fork-cons c.args.stmt.now.at (name_of c.in-Fork.field-0) c.in-Fork.field-1 e b x ∙ ap (λ a. a || is_one_of (forks_in b) x) other)
