use Rattle.std.proofs.Common.{rules, arith, ◌≡◌, ◌+◌, length, map, sym, subst, Ok, Err, slice_get, codes, refl, false}
use Rattle.cocoon_num.specs.Tree.{binary, call, pick, token_index, unary}
use Rattle.cocoon_num.specs.Values.{flip, not_}
use Rattle.cocoon_text.specs.Kinds.{mark_text}
use Rattle.cocoon_num.specs.Reads.{of_expr, of_or, of_cmp, of_cat}
use Rattle.cocoon_syntax.specs.TreeOf.{binary_of, expr_of, exprs_of, name_of}
use Rattle.cocoon_text.specs.ExprPhrases.{leaf_from, part_of, sides_of}
use Rattle.parsing.specs.PlainParser.{after, marked, named, path_from, reserved, expr_from, exprs_from, is_mark}
use Rattle.cocoon_text.specs.Agrees.{Agrees, AgreesDeep, Moves, is_name_token}
use Rattle.cocoon_text.proofs.Eventually.{deeper, agrees_marked, moves_made, moves_marked, moves_with_first, first_fails, agrees_deeper, eventual_read, agrees_read, fails_as, comma_fails, commas_begin, commas_more, commas_broken, commas_stop, all_read}
use Rattle.cocoon_text.proofs.Chains.{joined, alone, flipped, negated, called, choice, closed, picked_agrees, sides_agree, chain_begins, chain_fails, chain_goes, chain_stopped, chain_ends, slices_begin, slices_fail, slices_more, slices_stopped, slices_end, leaf_only, as_exprs}
use Rattle.cocoon_text.proofs.exprs.+expr.Goals as goal

pub expr-returns-in_err-left-clause-agrees : goal.expr-returns-in_err-left-clause-agrees
expr-returns-in_err-left-clause-agrees t c =
    let e : c.from_residual.result ≡ Err c.in_err-left.field-0.0 = search rules in
    fails_as expr_of expr_of c.in_err-left.field-0.0 e (λ k g. deeper (first_fails _ g)) c.in_err-left.ensures.agrees

pub expr-returns-in-Some-clause-agrees : goal.expr-returns-in-Some-clause-agrees
expr-returns-in-Some-clause-agrees t c = agrees_deeper (joined c.args.source.now of_expr of_or of_expr c.args.pos (binary_of c.in-Some.op) _ _ _ (eventual_read expr_of c.in_ok-left.ensures.agrees) c.in-Some.ensures.is (omega arith) c.expr.ensures.agrees c.binary.ensures)

pub expr-returns-in-Some-clause-moves : goal.expr-returns-in-Some-clause-moves
expr-returns-in-Some-clause-moves t c = moves_made expr_of expr_of (λ b. binary (token_index (expr_of c.in_ok-left.left)) (binary_of c.in-Some.op) (expr_of c.in_ok-left.left) b) c.args.pos _ _ _ _ (let h = c.in_ok-left.ensures.moves in omega (arith, h.0)) c.expr.ensures.moves c.binary.ensures

pub expr-returns-in-None-clause-agrees : goal.expr-returns-in-None-clause-agrees
expr-returns-in-None-clause-agrees t c = agrees_deeper (alone c.args.source.now of_expr of_or of_expr c.args.pos c.in_ok-left.ensures.agrees c.in-None.ensures.is)

pub comparison-returns-in_err-left-clause-agrees : goal.comparison-returns-in_err-left-clause-agrees
comparison-returns-in_err-left-clause-agrees t c =
    let e : c.from_residual.result ≡ Err c.in_err-left.field-0.0 = search rules in
    fails_as expr_of expr_of c.in_err-left.field-0.0 e (λ k g. deeper (first_fails _ g)) c.in_err-left.ensures.agrees

pub comparison-returns-in-Some-clause-agrees : goal.comparison-returns-in-Some-clause-agrees
comparison-returns-in-Some-clause-agrees t c = agrees_deeper (joined c.args.source.now of_cmp of_cat of_cat c.args.pos (binary_of c.in-Some.op) _ _ _ (eventual_read expr_of c.in_ok-left.ensures.agrees) c.in-Some.ensures.is (omega arith) c.chain-in-Some.ensures.agrees c.binary.ensures)

pub comparison-returns-in-Some-clause-moves : goal.comparison-returns-in-Some-clause-moves
comparison-returns-in-Some-clause-moves t c = moves_made expr_of expr_of (λ b. binary (token_index (expr_of c.in_ok-left.left)) (binary_of c.in-Some.op) (expr_of c.in_ok-left.left) b) c.args.pos _ _ _ _ (let h = c.in_ok-left.ensures.moves in omega (arith, h.0)) c.chain-in-Some.ensures.moves c.binary.ensures

pub comparison-returns-in-None-clause-agrees : goal.comparison-returns-in-None-clause-agrees
comparison-returns-in-None-clause-agrees t c = agrees_deeper (alone c.args.source.now of_cmp of_cat of_cat c.args.pos c.in_ok-left.ensures.agrees c.in-None.ensures.is)

pub expr_then-returns-clause-agrees : goal.expr_then-returns-clause-agrees
expr_then-returns-clause-agrees t c = agrees_marked c.args.source.now _ (λ n. expr_from c.args.source.now n of_expr c.args.pos) expr_of _ _ c.expr.ensures.agrees c.then.ensures

pub expr_then-returns-clause-moves : goal.expr_then-returns-clause-moves
expr_then-returns-clause-moves t c = moves_marked c.args.source.now (mark_text c.args.mark) c.args.pos _ _ _ (omega arith) c.expr.ensures.moves c.then.ensures

pub sides-returns-in_err-first-clause-agrees : goal.sides-returns-in_err-first-clause-agrees
sides-returns-in_err-first-clause-agrees t c =
    let e : c.from_residual.result ≡ Err c.in_err-first.field-0.0 = search rules in
    fails_as expr_of sides_of c.in_err-first.field-0.0 e (λ k g. first_fails _ g) c.in_err-first.ensures.agrees

pub sides-returns-clause-agrees : goal.sides-returns-clause-agrees
sides-returns-clause-agrees t c = sides_agree c.args.source.now c.args.pos _ _ c.in_ok-first.ensures.agrees c.expr_then-2.ensures.agrees c.both.ensures

pub sides-returns-clause-moves : goal.sides-returns-clause-moves
sides-returns-clause-moves t c = moves_with_first _ c.args.pos _ _ _ _ (let h = c.in_ok-first.ensures.moves in omega (arith, h.0)) c.expr_then-2.ensures.moves c.both.ensures

pub picked-returns-clause-agrees : goal.picked-returns-clause-agrees
picked-returns-clause-agrees t c = picked_agrees c.args.source.now (expr_of c.args.condition) (c.args.pos + 1) _ _ c.sides.ensures.agrees c.pick.ensures

pub picked-returns-clause-moves : goal.picked-returns-clause-moves
picked-returns-clause-moves t c = moves_made sides_of expr_of (λ p. pick (token_index (expr_of c.args.condition)) (expr_of c.args.condition) p.first p.second) c.args.pos _ _ _ _ (omega arith) c.sides.ensures.moves c.pick.ensures

pub unary-returns-then-is_mark-clause-agrees : goal.unary-returns-then-is_mark-clause-agrees
unary-returns-then-is_mark-clause-agrees t c = flipped c.args.source.now c.args.pos _ _ _ _ c.token_index.ensures (search rules) (omega arith) c.unary-inner.ensures.agrees c.with_unary.ensures

pub unary-returns-then-is_mark-clause-moves : goal.unary-returns-then-is_mark-clause-moves
unary-returns-then-is_mark-clause-moves t c = moves_made expr_of expr_of (λ a. unary c.token_index.result flip a) c.args.pos _ _ _ _ (omega arith) c.unary-inner.ensures.moves c.with_unary.ensures

pub unary-returns-then-is_keyword-clause-agrees : goal.unary-returns-then-is_keyword-clause-agrees
unary-returns-then-is_keyword-clause-agrees t c = negated c.args.source.now c.args.pos _ _ _ _ c.token_index-then-is_keyword.ensures (search rules) (search rules) (omega arith) c.unary-inner-then-is_keyword.ensures.agrees c.with_unary-then-is_keyword.ensures

pub unary-returns-then-is_keyword-clause-moves : goal.unary-returns-then-is_keyword-clause-moves
unary-returns-then-is_keyword-clause-moves t c = moves_made expr_of expr_of (λ a. unary c.token_index-then-is_keyword.result not_ a) c.args.pos _ _ _ _ (omega arith) c.unary-inner-then-is_keyword.ensures.moves c.with_unary-then-is_keyword.ensures

pub unary-returns-clause-agrees : goal.unary-returns-clause-agrees
unfolding after marked named
unary-returns-clause-agrees t c = agrees_deeper (record { depth = c.sliced.ensures.agrees.depth; agrees = λ n h. let e0 = c.sliced.ensures.agrees.agrees n (omega arith) in search rules })

pub variable_or_call-returns-in_err-name-clause-agrees : goal.variable_or_call-returns-in_err-name-clause-agrees
unfolding after marked named
variable_or_call-returns-in_err-name-clause-agrees t c = record { depth = 0; agrees = λ n h. search rules }

pub variable_or_call-returns-then-not-is_mark-clause-agrees : goal.variable_or_call-returns-then-not-is_mark-clause-agrees
unfolding after marked named
variable_or_call-returns-then-not-is_mark-clause-agrees t c = record { depth = 0; agrees = λ n h. search rules }

pub variable_or_call-returns-clause-agrees : goal.variable_or_call-returns-clause-agrees
variable_or_call-returns-clause-agrees t c = called c.args.source.now c.args.pos _ _ _ _ _ c.token_index-at.ensures c.in_ok-name.ensures.is (search rules) c.exprs-args.ensures.agrees c.then.ensures c.call.ensures

pub variable_or_call-returns-clause-moves : goal.variable_or_call-returns-clause-moves
variable_or_call-returns-clause-moves t c = moves_made (λ v. exprs_of (map expr_of v.items)) expr_of (λ xs. call c.token_index-at.result (name_of c.in_ok-name.name) xs) c.args.pos c.args.pos (length c.args.source.now) c.then.result _ (omega arith) (moves_marked c.args.source.now (codes ")") c.args.pos _ c.exprs-args.result _ (omega arith) c.exprs-args.ensures.moves c.then.ensures) c.call.ensures

pub bracketed-returns-in_err-first-clause-agrees : goal.bracketed-returns-in_err-first-clause-agrees
bracketed-returns-in_err-first-clause-agrees t c =
    let e : c.from_residual.result ≡ Err c.in_err-first.field-0.0 = search rules in
    fails_as expr_of expr_of c.in_err-first.field-0.0 e (λ k g. first_fails _ g) c.in_err-first.ensures.agrees

pub bracketed-returns-then-is_mark-clause-agrees : goal.bracketed-returns-then-is_mark-clause-agrees
bracketed-returns-then-is_mark-clause-agrees t c = choice c.args.source.now (c.args.pos + 1) _ _ c.in_ok-first.ensures.agrees (search rules) (omega arith) c.picked.ensures.agrees

pub bracketed-returns-clause-agrees : goal.bracketed-returns-clause-agrees
bracketed-returns-clause-agrees t c = closed c.args.source.now (c.args.pos + 1) _ c.in_ok-first.ensures.agrees (search rules) c.then.ensures

pub bracketed-returns-clause-moves : goal.bracketed-returns-clause-moves
bracketed-returns-clause-moves t c = moves_marked c.args.source.now (codes ")") c.args.pos (c.args.pos + 1) (Ok (c.in_ok-first.first, c.in_ok-first.next)) c.then.result (omega arith) c.in_ok-first.ensures.moves c.then.ensures

pub chain-returns-in_err-left-clause-agrees : goal.chain-returns-in_err-left-clause-agrees
chain-returns-in_err-left-clause-agrees t c =
    let e : c.from_residual.result ≡ Err c.in_err-left.field-0.0 = search rules in
    fails_as expr_of expr_of c.in_err-left.field-0.0 e (chain_fails c.args.source.now c.args.level c.args.pos) c.in_err-left.ensures.agrees

pub chain-chain-init : goal.chain-chain-init
chain-chain-init t c = record {
  forward = search rules;
  within = search rules;
  rest = chain_begins c.args.source.now c.args.level c.args.pos (eventual_read expr_of c.in_ok-left.ensures.agrees);
}

pub chain-returns-in_err-both-clause-agrees : goal.chain-returns-in_err-both-clause-agrees
chain-returns-in_err-both-clause-agrees t c =
    let e : c.from_residual-in_err-both.result ≡ Err c.in_err-both.field-0.0 = search rules in
    chain_stopped c.args.source.now c.args.level (expr_of c.chain.left) c.chain.next _ (binary_of c.in-Some.op) _ _ c.chain.invariant.rest (sym c.in-Some.ensures.is) (omega arith) c.part-right.ensures.agrees c.in_err-both.ensures e

pub chain-chain-preserved : goal.chain-chain-preserved
chain-chain-preserved t c =
    let m : Moves c.chain.next (length c.args.source.now) (Ok (c.in_ok-both.both, c.in_ok-both.after)) = moves_made expr_of expr_of (λ b. binary (token_index (expr_of c.chain.left)) (binary_of c.in-Some.op) (expr_of c.chain.left) b) c.chain.next (c.chain.next + 1) (length c.args.source.now) c.part-right.result (Ok (c.in_ok-both.both, c.in_ok-both.after)) (omega arith) c.part-right.ensures.moves c.in_ok-both.ensures in
    record {
      forward = let h = c.chain.invariant.forward in omega (arith, h, m.0);
      within = m.1;
      rest = chain_goes c.args.source.now c.args.level (expr_of c.chain.left) c.chain.next _ (binary_of c.in-Some.op) c.part-right.result c.in_ok-both.both c.chain.invariant.rest (sym c.in-Some.ensures.is) (omega arith) c.part-right.ensures.agrees c.in_ok-both.ensures;
    }

pub chain-chain-smaller : goal.chain-chain-smaller
chain-chain-smaller t c = let m : Moves c.chain.next (length c.args.source.now) (Ok (c.in_ok-both.both, c.in_ok-both.after)) = moves_made expr_of expr_of (λ b. binary (token_index (expr_of c.chain.left)) (binary_of c.in-Some.op) (expr_of c.chain.left) b) c.chain.next (c.chain.next + 1) (length c.args.source.now) c.part-right.result (Ok (c.in_ok-both.both, c.in_ok-both.after)) (omega arith) c.part-right.ensures.moves c.in_ok-both.ensures in omega (arith, m.0, m.1)

pub chain-returns-clause-agrees : goal.chain-returns-clause-agrees
chain-returns-clause-agrees t c = agrees_read expr_of (chain_ends c.args.source.now c.args.level (expr_of c.chain.left) c.chain.next c.chain.invariant.rest (search rules))

pub primary-returns-then-is_mark-clause-agrees : goal.primary-returns-then-is_mark-clause-agrees
unfolding after marked named path_from reserved
primary-returns-then-is_mark-clause-agrees t c = agrees_deeper (record { depth = c.bracketed.ensures.agrees.depth; agrees = λ n h. let e0 = c.bracketed.ensures.agrees.agrees n (omega arith) in search rules })

pub primary-returns-then-is_name-clause-agrees : goal.primary-returns-then-is_name-clause-agrees
unfolding after marked named path_from reserved
primary-returns-then-is_name-clause-agrees t c = agrees_deeper (record { depth = c.variable_or_call.ensures.agrees.depth; agrees = λ n h. let e0 = c.variable_or_call.ensures.agrees.agrees n (omega arith) in search rules })

pub primary-returns-clause-agrees : goal.primary-returns-clause-agrees
primary-returns-clause-agrees t c =
    let ts = c.args.source.now in
    let pos = c.args.pos in
    let agrees : Agrees (leaf_from ts pos) expr_of c.leaf.result = c.leaf.ensures.agrees in
    let bracket : is_mark (codes "(") (slice_get ts pos) ≡ false = search rules in
    let name : is_name_token (slice_get ts pos) ≡ false = search rules in
    agrees_deeper (record { depth = 0; agrees = λ n h. subst (λ r. Agrees r expr_of c.leaf.result) (sym (leaf_only ts (expr_from ts n of_expr) (exprs_from ts n) pos (slice_get ts pos) refl bracket name)) agrees })

pub part-returns-in-Or-clause-agrees : goal.part-returns-in-Or-clause-agrees
part-returns-in-Or-clause-agrees t c = subst (λ l. AgreesDeep (λ n. expr_from c.args.source.now n (part_of l) c.args.pos) expr_of c.chain.result) (sym c.in-Or.is) c.chain.ensures.agrees

pub part-returns-in-And-clause-agrees : goal.part-returns-in-And-clause-agrees
part-returns-in-And-clause-agrees t c = subst (λ l. AgreesDeep (λ n. expr_from c.args.source.now n (part_of l) c.args.pos) expr_of c.comparison.result) (sym c.in-And.is) c.comparison.ensures.agrees

pub part-returns-in-Concat-clause-agrees : goal.part-returns-in-Concat-clause-agrees
part-returns-in-Concat-clause-agrees t c = subst (λ l. AgreesDeep (λ n. expr_from c.args.source.now n (part_of l) c.args.pos) expr_of c.chain-in-Concat.result) (sym c.in-Concat.is) c.chain-in-Concat.ensures.agrees

pub part-returns-in-Bits-clause-agrees : goal.part-returns-in-Bits-clause-agrees
part-returns-in-Bits-clause-agrees t c = subst (λ l. AgreesDeep (λ n. expr_from c.args.source.now n (part_of l) c.args.pos) expr_of c.chain-in-Bits.result) (sym c.in-Bits.is) c.chain-in-Bits.ensures.agrees

pub part-returns-in-Sum-clause-agrees : goal.part-returns-in-Sum-clause-agrees
part-returns-in-Sum-clause-agrees t c = subst (λ l. AgreesDeep (λ n. expr_from c.args.source.now n (part_of l) c.args.pos) expr_of c.unary.result) (sym c.in-Sum.is) c.unary.ensures.agrees

pub sliced-returns-in_err-number-clause-agrees : goal.sliced-returns-in_err-number-clause-agrees
sliced-returns-in_err-number-clause-agrees t c =
    let e : c.from_residual.result ≡ Err c.in_err-number.field-0.0 = search rules in
    fails_as expr_of expr_of c.in_err-number.field-0.0 e (slices_fail c.args.source.now c.args.pos) c.in_err-number.ensures.agrees

pub sliced-slices-init : goal.sliced-slices-init
sliced-slices-init t c = record {
  forward = search rules;
  within = search rules;
  rest = slices_begin c.args.source.now c.args.pos (eventual_read expr_of c.in_ok-number.ensures.agrees);
}

pub sliced-returns-in_err-high-clause-agrees : goal.sliced-returns-in_err-high-clause-agrees
sliced-returns-in_err-high-clause-agrees t c =
    let e : c.from_residual-in_err-high.result ≡ Err c.in_err-high.field-0.0 = search rules in
    slices_stopped c.args.source.now (expr_of c.slices.number) c.slices.next c.in_err-high.field-0.0 c.slices.invariant.rest (search rules) c.in_err-high.ensures.agrees e

pub sliced-slices-preserved : goal.sliced-slices-preserved
sliced-slices-preserved t c = record {
  forward = search rules;
  within = search rules;
  rest = slices_more c.args.source.now (expr_of c.slices.number) c.slices.next c.in_ok-high.high c.in_ok-high.low c.slices.invariant.rest (search rules) c.in_ok-high.ensures.agrees c.in_ok-number-2.ensures;
}

pub sliced-returns-clause-agrees : goal.sliced-returns-clause-agrees
sliced-returns-clause-agrees t c = agrees_read expr_of (slices_end c.args.source.now (expr_of c.slices.number) c.slices.next c.slices.invariant.rest (search rules))

pub exprs-returns-in_err-first-clause-agrees : goal.exprs-returns-in_err-first-clause-agrees
exprs-returns-in_err-first-clause-agrees t c =
    let e : c.from_residual.result ≡ Err c.in_err-first.field-0.0 = search rules in
    as_exprs c.args.source.now c.args.pos (fails_as expr_of (λ v. map expr_of v.items) c.in_err-first.field-0.0 e (λ k g. comma_fails c.args.source.now (λ m. expr_from c.args.source.now m of_expr) c.args.pos g) c.in_err-first.ensures.agrees)

pub exprs-exprs-init : goal.exprs-exprs-init
exprs-exprs-init t c = record {
  forward = search rules;
  within = search rules;
  so_far = commas_begin c.args.source.now (λ m. expr_from c.args.source.now m of_expr) expr_of c.args.pos (eventual_read expr_of c.in_ok-first.ensures.agrees) (search rules);
}

pub exprs-exprs-preserved : goal.exprs-exprs-preserved
exprs-exprs-preserved t c = record {
  forward = search rules;
  within = search rules;
  so_far = commas_more c.args.source.now (λ m. expr_from c.args.source.now m of_expr) expr_of c.exprs.next (c.exprs.next + 1) c.exprs.exprs.items c.exprs.invariant.so_far (search rules) (omega arith) (eventual_read expr_of c.in_ok-expr.ensures.agrees) (search rules);
}

pub exprs-returns-in_err-expr-clause-agrees : goal.exprs-returns-in_err-expr-clause-agrees
exprs-returns-in_err-expr-clause-agrees t c =
    let e : c.from_residual-in_err-expr.result ≡ Err c.in_err-expr.field-0.0 = search rules in
    as_exprs c.args.source.now c.args.pos (fails_as expr_of (λ v. map expr_of v.items) c.in_err-expr.field-0.0 e
    (commas_broken c.args.source.now (λ m. expr_from c.args.source.now m of_expr) c.exprs.next (c.exprs.next + 1) c.exprs.invariant.so_far (search rules) (omega arith))
    c.in_err-expr.ensures.agrees)

pub exprs-returns-clause-agrees : goal.exprs-returns-clause-agrees
exprs-returns-clause-agrees t c = as_exprs c.args.source.now c.args.pos (agrees_read (λ v. map expr_of v.items) (all_read c.exprs.invariant.so_far (commas_stop c.args.source.now (λ m. expr_from c.args.source.now m of_expr) c.exprs.next (search rules))))
