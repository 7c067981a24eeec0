use Rattle.std.proofs.Common.{rules, arith, ◌≡◌, true, false, map, subst, add-one, slice_get, codes, Err}
use Rattle.cocoon_syntax.specs.TreeOf.{expr_of, name_of, stmt_of}
use Rattle.cocoon_text.specs.Phrases.{guarded_of, choosing_of}
use Rattle.cocoon_text.proofs.Blocks.{as_block, blocks, block_agrees, guarded_agrees, if_agrees, if_fails, fork_agrees, fork_fails}
use Rattle.parsing.specs.PlainParser.{after, marked, many_from, stmt_from, closes, is_keyword, ended, expr_from}
use Rattle.cocoon_text.specs.Agrees.{Agrees}
use Rattle.cocoon_num.specs.Reads.{of_expr}
use Rattle.cocoon_num.specs.Tree as tree
use Rattle.cocoon_text.proofs.Eventually.{first_fails, advances_marked, advances_made, moves_made, moves_with_first, agrees_deeper, eventual_read, agrees_read, fails_as, none_yet_of, many_more, many_broken, many_stop, all_read}
use Rattle.cocoon_text.proofs.stmts.+stmt.Goals as goal

pub block-returns-in_err-expect-clause-agrees : goal.block-returns-in_err-expect-clause-agrees
unfolding after marked
block-returns-in_err-expect-clause-agrees t c = agrees_deeper (record { depth = 0; agrees = λ n h. let e0 = c.in_err-expect.ensures.is in search rules })

pub block-returns-clause-agrees : goal.block-returns-clause-agrees
block-returns-clause-agrees t c = block_agrees c.args.source.now c.args.pos _ _ _ (search rules) (omega arith) c.stmts.ensures.agrees c.then.ensures

pub block-returns-clause-moves : goal.block-returns-clause-moves
block-returns-clause-moves t c = advances_marked c.args.source.now (codes "}") c.args.pos _ c.stmts.result _ (omega arith) c.stmts.ensures.moves c.then.ensures

pub guarded-returns-in_err-condition-clause-agrees : goal.guarded-returns-in_err-condition-clause-agrees
guarded-returns-in_err-condition-clause-agrees t c =
    let e : c.from_residual.result ≡ Err c.in_err-condition.field-0.0 = search rules in
    fails_as expr_of guarded_of c.in_err-condition.field-0.0 e (λ k g. first_fails _ g) c.in_err-condition.ensures.agrees

pub guarded-returns-clause-agrees : goal.guarded-returns-clause-agrees
guarded-returns-clause-agrees t c = guarded_agrees c.args.source.now c.args.pos _ _ c.in_ok-condition.ensures.agrees c.block.ensures.agrees c.both.ensures

pub guarded-returns-clause-moves : goal.guarded-returns-clause-moves
guarded-returns-clause-moves t c = moves_with_first _ c.args.pos _ _ _ _ (let h = c.in_ok-condition.ensures.moves in omega (arith, h.0)) c.block.ensures.moves c.both.ensures

pub otherwise-returns-then-is_keyword-clause-agrees : goal.otherwise-returns-then-is_keyword-clause-agrees
otherwise-returns-then-is_keyword-clause-agrees t c = record { depth = c.block.ensures.agrees.depth; agrees = λ n h. let e0 = c.block.ensures.agrees.agrees n (omega arith) in search rules }

pub otherwise-returns-clause-agrees : goal.otherwise-returns-clause-agrees
otherwise-returns-clause-agrees t c = record { depth = 0; agrees = λ n h. search rules }

pub conditional-returns-in_err-condition-clause-agrees : goal.conditional-returns-in_err-condition-clause-agrees
conditional-returns-in_err-condition-clause-agrees t c =
    let e : c.from_residual.result ≡ Err c.in_err-condition.field-0.0 = search rules in
    fails_as guarded_of stmt_of c.in_err-condition.field-0.0 e (λ k g. if_fails c.args.source.now c.args.pos k g) c.in_err-condition.ensures.agrees

pub conditional-returns-clause-agrees : goal.conditional-returns-clause-agrees
conditional-returns-clause-agrees t c = if_agrees c.args.source.now c.args.pos c.token_index.result (c.in_ok-condition.condition, c.in_ok-condition.first) _ _ c.token_index.ensures c.in_ok-condition.ensures.agrees c.otherwise-second.ensures.agrees c.if_node.ensures

pub conditional-returns-clause-moves : goal.conditional-returns-clause-moves
conditional-returns-clause-moves t c = advances_made blocks stmt_of (λ b. tree.if_ c.token_index.result (expr_of c.in_ok-condition.condition) (blocks c.in_ok-condition.first) b) c.args.pos _ _ _ _ (let h = c.in_ok-condition.ensures.moves in omega (arith, h.0)) c.otherwise-second.ensures.moves c.if_node.ensures

pub fork-returns-in_err-variable-clause-agrees : goal.fork-returns-in_err-variable-clause-agrees
fork-returns-in_err-variable-clause-agrees t c =
    let e : c.from_residual.result ≡ Err c.in_err-variable.field-0.0 = search rules in
    fails_as choosing_of stmt_of c.in_err-variable.field-0.0 e (λ k g. fork_fails c.args.source.now c.args.pos k g) c.in_err-variable.ensures.agrees

pub fork-returns-clause-agrees : goal.fork-returns-clause-agrees
fork-returns-clause-agrees t c = fork_agrees c.args.source.now c.args.pos c.token_index.result (c.in_ok-variable.variable, c.in_ok-variable.condition) _ _ c.token_index.ensures c.in_ok-variable.ensures.agrees c.block-body.ensures.agrees c.fork_node.ensures

pub fork-returns-clause-moves : goal.fork-returns-clause-moves
fork-returns-clause-moves t c = moves_made blocks stmt_of (λ b. tree.fork c.token_index.result (name_of c.in_ok-variable.variable.name) c.in_ok-variable.variable.width (expr_of c.in_ok-variable.condition) b) c.args.pos _ _ _ _ (let h = c.in_ok-variable.ensures.moves in omega (arith, h.0)) c.block-body.ensures.moves c.fork_node.ensures

pub stmt-returns-then-is_keyword-clause-agrees : goal.stmt-returns-then-is_keyword-clause-agrees
stmt-returns-then-is_keyword-clause-agrees t c = agrees_deeper (record { depth = c.binding.ensures.agrees.depth; agrees = λ n h. let e0 = c.binding.ensures.agrees.agrees n (omega arith) in search rules })

pub stmt-returns-then-is_keyword-2-clause-agrees : goal.stmt-returns-then-is_keyword-2-clause-agrees
stmt-returns-then-is_keyword-2-clause-agrees t c = agrees_deeper (record { depth = c.setting.ensures.agrees.depth; agrees = λ n h. let e0 = c.setting.ensures.agrees.agrees n (omega arith) in search rules })

pub stmt-returns-then-is_keyword-3-clause-agrees : goal.stmt-returns-then-is_keyword-3-clause-agrees
stmt-returns-then-is_keyword-3-clause-agrees t c = agrees_deeper (record { depth = c.conditional.ensures.agrees.depth; agrees = λ n h. let e0 = c.conditional.ensures.agrees.agrees n (omega arith) in search rules })

pub stmt-returns-then-is_keyword-4-clause-agrees : goal.stmt-returns-then-is_keyword-4-clause-agrees
stmt-returns-then-is_keyword-4-clause-agrees t c = agrees_deeper (record { depth = c.filter.ensures.agrees.depth; agrees = λ n h. let e0 = c.filter.ensures.agrees.agrees n (omega arith) in search rules })

pub stmt-returns-then-is_keyword-5-clause-agrees : goal.stmt-returns-then-is_keyword-5-clause-agrees
stmt-returns-then-is_keyword-5-clause-agrees t c = agrees_deeper (record { depth = 0; agrees = λ n h. search rules })

pub stmt-returns-then-is_keyword-6-clause-agrees : goal.stmt-returns-then-is_keyword-6-clause-agrees
stmt-returns-then-is_keyword-6-clause-agrees t c =
    let ts = c.args.source.now in
    let pos = c.args.pos in
    let k0 : is_keyword (codes "let") (slice_get c.args.source.now c.args.pos) ≡ false = search rules in
    let k1 : is_keyword (codes "pkt") (slice_get c.args.source.now c.args.pos) ≡ false = search rules in
    let k2 : is_keyword (codes "if") (slice_get c.args.source.now c.args.pos) ≡ false = search rules in
    let k3 : is_keyword (codes "filter") (slice_get c.args.source.now c.args.pos) ≡ false = search rules in
    let k4 : is_keyword (codes "havoc") (slice_get c.args.source.now c.args.pos) ≡ false = search rules in
    let k5 : is_keyword (codes "assume") (slice_get c.args.source.now c.args.pos) ≡ true = search rules in
    agrees_deeper (record {
      depth = c.assume.ensures.agrees.depth;
      agrees = λ n h. rw (k0, k1, k2, k3, k4, k5)
          (subst (λ z. Agrees (ended ts (expr_from ts n of_expr) z (λ x. tree.assume pos x)) stmt_of c.assume.result) (add-one pos) (c.assume.ensures.agrees.agrees n h));
    })

pub stmt-returns-then-is_keyword-7-clause-agrees : goal.stmt-returns-then-is_keyword-7-clause-agrees
stmt-returns-then-is_keyword-7-clause-agrees t c = agrees_deeper (record { depth = c.fork.ensures.agrees.depth; agrees = λ n h. let e0 = c.fork.ensures.agrees.agrees n (omega arith) in search rules })

pub stmt-returns-then-is_keyword-8-clause-agrees : goal.stmt-returns-then-is_keyword-8-clause-agrees
stmt-returns-then-is_keyword-8-clause-agrees t c = agrees_deeper (record { depth = c.send.ensures.agrees.depth; agrees = λ n h. let e0 = c.send.ensures.agrees.agrees n (omega arith) in search rules })

pub stmt-returns-clause-agrees : goal.stmt-returns-clause-agrees
stmt-returns-clause-agrees t c = agrees_deeper (record { depth = 0; agrees = λ n h. search rules })

pub stmts-stmts-init : goal.stmts-stmts-init
stmts-stmts-init t c = record {
  forward = omega arith;
  within = search rules;
  so_far = none_yet_of stmt_of (λ n. many_from (stmt_from c.args.source.now) (closes c.args.source.now) n c.args.pos) (search rules);
}

pub stmts-stmts-preserved : goal.stmts-stmts-preserved
stmts-stmts-preserved t c = record {
  forward = search rules;
  within = search rules;
  so_far = many_more (stmt_from c.args.source.now) (closes c.args.source.now) stmt_of c.stmts.next c.stmts.stmts.items c.stmts.invariant.so_far (search rules) (eventual_read stmt_of c.in_ok-stmt.ensures.agrees) (search rules);
}

pub stmts-returns-in_err-stmt-clause-agrees : goal.stmts-returns-in_err-stmt-clause-agrees
stmts-returns-in_err-stmt-clause-agrees t c =
    let e : c.from_residual.result ≡ Err c.in_err-stmt.field-0.0 = search rules in
    as_block c.args.source.now c.args.pos (fails_as stmt_of (λ v. map stmt_of v.items) c.in_err-stmt.field-0.0 e
    (many_broken (stmt_from c.args.source.now) (closes c.args.source.now) c.stmts.next c.stmts.invariant.so_far (search rules))
    c.in_err-stmt.ensures.agrees)

pub stmts-returns-clause-agrees : goal.stmts-returns-clause-agrees
stmts-returns-clause-agrees t c = as_block c.args.source.now c.args.pos (agrees_read (λ v. map stmt_of v.items) (all_read c.stmts.invariant.so_far (many_stop (stmt_from c.args.source.now) (closes c.args.source.now) c.stmts.next (search rules))))
