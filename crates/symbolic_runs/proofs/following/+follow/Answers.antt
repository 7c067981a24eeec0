use Rattle.std.proofs.Common.{◌≡◌, ℕ, suc, ◌+◌, ◌*◌, ◌<◌, ◌≤◌, List, [], ◌∷◌, ◌++◌, map, drop, length, All, Bool, true, false, Option, Some, None, IfOk, rules, refl, sym, ap, subst, ◌∙◌, arith}
use Rattle.std.proofs.lemmas.List.{append-nil, drop_all}
use Rattle.std.proofs.lemmas.List.Elements.{All-nil}
use Rattle.std.proofs.lemmas.Result.{IfOk-weaker}
use Rattle.cocoon_num.specs.Tree.{Block, Stmt, filter, fork, if_, no_stmts, stmt}
use Rattle.cocoon_syntax.specs.declared.stmt.StmtKind as kinds
use Rattle.cocoon_syntax.specs.TreeOf.{block_of, expr_of, name_of, stmt_of}
use Rattle.bv_terms.specs.Arenas.{KeepsTerms, inputs_in}
use Rattle.bv_terms.proofs.ReplaceFacts.{keeps-both, keeps-none}
use Rattle.obligation_laws.specs.Following.{Followed, all_back_to, each, follow, follow_all, in_branch, one, term_at, then_those, those_sent, unless_sent}
use Rattle.symbolic_runs.specs.Fitting.{CanDo, CanFollow}
use Rattle.symbolic_runs.specs.Reading.{Follows, IsThere, Reads, forked, state_of, states_of, world_in}
use Rattle.symbolic_runs.proofs.Growing.{one_all, states_on}
use Rattle.symbolic_runs.proofs.Lists.{each_more, empty_of, follows_both, there_more}
use Rattle.symbolic_runs.proofs.Sizes.{from_one, one_of, size, size_all}
use Rattle.symbolic_runs.proofs.Standing.{can_do, can_first, can_next, can_on, follows_one, there_all}
use Rattle.symbolic_runs.proofs.Stepping.{can_branch, can_fork, can_one, can_rest, declared_width, first_there, fork_condition, fork_is, if_condition, if_is, not_some, reads_self, same_fork, same_if, sent_stays, unsent_goes}
use Rattle.symbolic_runs.proofs.following.+follow.Goals as goal

-- ---- blocks

pub follow_block-loop-stmt-init : goal.follow_block-loop-stmt-init
follow_block-loop-stmt-init t c = record { kept = keeps-none c.args.terms.now; can = c.requires.can; same = refl }

pub follow_block-follow_each-requires : goal.follow_block-follow_each-requires
follow_block-follow_each-requires t c =
    let w = c.args.world.now in
    let stmts = c.args.stmts.now in
    let i = c.loop-stmt.stmt-index in
    let x = c.stmt-item.result in
    let rest = block_of (map stmt_of (drop (i + 1) stmts)) in
    let small : size (stmt_of x) ≤ size_all (block_of (map stmt_of stmts)) = one_of stmt_of stmts i x c.loop-stmt-test.true c.stmt-item.is in
    let can : CanFollow w c.loop-stmt.terms c.loop-stmt.states.items (stmt (stmt_of x) rest) =
    subst (CanFollow w c.loop-stmt.terms c.loop-stmt.states.items) (from_one stmt_of stmts i x c.loop-stmt-test.true c.stmt-item.is) c.loop-stmt.invariant.can in
    (omega (arith, small), (c.requires.ready, can_first w c.loop-stmt.terms c.loop-stmt.states.items (stmt_of x) rest can))

pub follow_block-loop-stmt-preserved : goal.follow_block-loop-stmt-preserved
follow_block-loop-stmt-preserved t c =
    let w = c.args.world.now in
    let stmts = c.args.stmts.now in
    let i = c.loop-stmt.stmt-index in
    let x = c.stmt-item.result in
    let rest = block_of (map stmt_of (drop (i + 1) stmts)) in
    let m = c.loop-stmt.terms in
    let b = c.follow_each.new.terms in
    let now = c.loop-stmt.states.items in
    let next = c.in_ok-states.states.items in
    let front = from_one stmt_of stmts i x c.loop-stmt-test.true c.stmt-item.is in
    let can : CanFollow w m now (stmt (stmt_of x) rest) = subst (CanFollow w m now) front c.loop-stmt.invariant.can in
    let f = c.in_ok-states.ensures.follows in
    record {
      kept = keeps-both c.args.terms.now m b c.loop-stmt.invariant.kept c.follow_each.ensures.kept;
      can = can_next w c.requires.ready m b now next (stmt_of x) rest can f;
      same = c.loop-stmt.invariant.same ∙ ap (λ (k : Block). follow_all (world_in w) k (states_of m now, inputs_in m)) front
          ∙ (λ j. follow_all (world_in w) rest (sym f.are j, sym f.next j));
    }

pub follow_block-returns-clause-follows : goal.follow_block-returns-clause-follows
follow_block-returns-clause-follows t c =
    let w = c.args.world.now in
    let stmts = c.args.stmts.now in
    let i = c.loop-stmt.stmt-index in
    let m = c.loop-stmt.terms in
    let now = c.loop-stmt.states.items in
    let l : length stmts ≤ i = search rules in
    let end : follow_all (world_in w) (block_of (map stmt_of stmts)) (states_of c.args.terms.now c.args.states.items, inputs_in c.args.terms.now) ≡ (states_of m now, inputs_in m) =
    c.loop-stmt.invariant.same ∙ ap (λ xs. follow_all (world_in w) (block_of (map stmt_of xs)) (states_of m now, inputs_in m)) (drop_all i stmts l) in
    record {
      there = there_all w m c.loop-stmt.invariant.can.vars now c.loop-stmt.invariant.can.stand;
      are = ap (λ (r : Followed). r.0) (sym end);
      next = ap (λ (r : Followed). r.1) (sym end);
    }

pub follow_block-returns-clause-kept : goal.follow_block-returns-clause-kept
follow_block-returns-clause-kept t c = c.loop-stmt.invariant.kept

-- ---- one state after another

pub follow_each-loop-state-init : goal.follow_each-loop-state-init
follow_each-loop-state-init t c =
    let items = c.into_iter-state-iterator.ensures.into_iter_gives.0 in
    let none : c.new-after.result.items ≡ [] = c.new-after.ensures.items in
    record {
      kept = keeps-none c.args.terms.now;
      there = subst (All (IsThere c.args.terms.now)) (sym none) (All-nil (IsThere c.args.terms.now));
      can = subst (λ ss. CanFollow c.args.world.now c.args.terms.now ss (stmt (stmt_of c.args.stmt.now) no_stmts)) (sym items) c.requires.can;
      same = λ j. then_those (states_of c.args.terms.now (none j), inputs_in c.args.terms.now) (each (unless_sent (follow (world_in c.args.world.now) (stmt_of c.args.stmt.now))) (states_of c.args.terms.now (items j)));
    }

pub follow_each-follow_one-requires : goal.follow_each-follow_one-requires
follow_each-follow_one-requires t c =
    let w = c.args.world.now in
    let x = stmt_of c.args.stmt.now in
    let m = c.loop-state.terms in
    let s = c.in-Some.state in
    let rest = c.next.new.self.rest.items in
    let front : c.loop-state.state-iterator.rest.items ≡ s ∷ rest = c.in-Some.ensures.steps.0 in
    let can : CanFollow w m (s ∷ rest) (stmt x no_stmts) = subst (λ ss. CanFollow w m ss (stmt x no_stmts)) front c.loop-state.invariant.can in
    (omega arith, (c.requires.ready, can_one w m s rest (stmt x no_stmts) can))

pub follow_each-loop-state-preserved : goal.follow_each-loop-state-preserved
follow_each-loop-state-preserved t c =
    let w = c.args.world.now in
    let x = stmt_of c.args.stmt.now in
    let f = unless_sent (follow (world_in w) x) in
    let m = c.loop-state.terms in
    let b = c.follow_one.new.terms in
    let s = c.in-Some.state in
    let out = c.loop-state.after.items in
    let made = c.in_ok-made.made.items in
    let rest = c.next.new.self.rest.items in
    let front : c.loop-state.state-iterator.rest.items ≡ s ∷ rest = c.in-Some.ensures.steps.0 in
    let can : CanFollow w m (s ∷ rest) (stmt x no_stmts) = subst (λ ss. CanFollow w m ss (stmt x no_stmts)) front c.loop-state.invariant.can in
    let kept = c.follow_one.ensures.kept in
    let follows = c.in_ok-made.ensures.follows in
    let items : c.append.new.self.items ≡ out ++ made = search rules in
    let later = can_rest w m s rest (stmt x no_stmts) can in
    record {
      kept = keeps-both c.args.terms.now m b c.loop-state.invariant.kept kept;
      there = subst (All (IsThere b)) (sym items) (there_more m b out made kept c.loop-state.invariant.there follows.there);
      can = can_on w m b rest (stmt x no_stmts) kept later;
      same = (λ j. then_those (states_of b (items j), inputs_in b) (each f (states_on m b rest kept (there_all w m later.vars rest later.stand) j)))
          ∙ each_more m b f out made (state_of m s) (states_of m rest) kept c.loop-state.invariant.there follows
          ∙ ap (λ ss. then_those (states_of m out, inputs_in m) (each f (states_of m ss))) (sym front) ∙ c.loop-state.invariant.same;
    }

pub follow_each-returns-clause-follows : goal.follow_each-returns-clause-follows
follow_each-returns-clause-follows t c =
    let w = c.args.world.now in
    let f = unless_sent (follow (world_in w) (stmt_of c.args.stmt.now)) in
    let m = c.loop-state.terms in
    let out = c.loop-state.after.items in
    let end : c.loop-state.state-iterator.rest.items ≡ [] = empty_of c.loop-state.state-iterator.rest.items (sym c.loop-state.state-iterator.rest.ok.0 ∙ c.in-None.ensures.steps.0) in
    let whole : (states_of m out ++ [], inputs_in m) ≡ each f (states_of c.args.terms.now c.args.states.items) (inputs_in c.args.terms.now) =
    ap (λ ss. then_those (states_of m out, inputs_in m) (each f (states_of m ss))) (sym end) ∙ c.loop-state.invariant.same in
    record {
      there = c.loop-state.invariant.there;
      are = sym (append-nil (states_of m out)) ∙ ap (λ (r : Followed). r.0) whole;
      next = ap (λ (r : Followed). r.1) whole;
    }

pub follow_each-returns-clause-kept : goal.follow_each-returns-clause-kept
follow_each-returns-clause-kept t c = c.loop-state.invariant.kept

pub follow_each-returns-in_err-made-clause-kept : goal.follow_each-returns-in_err-made-clause-kept
follow_each-returns-in_err-made-clause-kept t c = keeps-both c.args.terms.now c.loop-state.terms c.follow_one.new.terms c.loop-state.invariant.kept c.follow_one.ensures.kept

pub follow_each-returns-in_err-append-clause-kept : goal.follow_each-returns-in_err-append-clause-kept
follow_each-returns-in_err-append-clause-kept t c = keeps-both c.args.terms.now c.loop-state.terms c.follow_one.new.terms c.loop-state.invariant.kept c.follow_one.ensures.kept

pub follow_block-returns-in_err-states-clause-kept : goal.follow_block-returns-in_err-states-clause-kept
follow_block-returns-in_err-states-clause-kept t c = keeps-both c.args.terms.now c.loop-stmt.terms c.follow_each.new.terms c.loop-stmt.invariant.kept c.follow_each.ensures.kept

-- ---- a state

pub follow_one-follow_stmt-requires : goal.follow_one-follow_stmt-requires
follow_one-follow_stmt-requires t c =
    (omega arith, (c.requires.ready, can_do c.args.world.now c.args.terms.now c.args.state (stmt_of c.args.stmt.now) c.requires.can (not_some c.args.state.sent (sym c.has_sent.ensures ∙ c.if-has_sent.false))))

pub follow_one-returns-then-has_sent-clause-follows : goal.follow_one-returns-then-has_sent-clause-follows
follow_one-returns-then-has_sent-clause-follows t c =
    let w = c.args.world.now in
    let a = c.args.terms.now in
    let s = c.args.state in
    let x = stmt_of c.args.stmt.now in
    let f = follow (world_in w) x in
    IfOk-weaker c.one.result _ _
    (λ v e. subst (λ ss. Follows a ss (unless_sent f (state_of a s) (inputs_in a))) (sym e)
    (subst (Follows a (s ∷ [])) (sym (sent_stays f a s (inputs_in a) (sym c.has_sent.ensures ∙ c.if-has_sent.true)))
    (follows_one a s (state_of a s) (inputs_in a) (reads_self a s (first_there w a s (stmt x no_stmts) c.requires.can)) refl)))
    c.one.ensures

pub follow_one-returns-then-has_sent-clause-kept : goal.follow_one-returns-then-has_sent-clause-kept
follow_one-returns-then-has_sent-clause-kept t c = keeps-none c.args.terms.now

pub follow_one-returns-else-has_sent-clause-follows : goal.follow_one-returns-else-has_sent-clause-follows
follow_one-returns-else-has_sent-clause-follows t c =
    let a = c.args.terms.now in
    let s = c.args.state in
    let f = follow (world_in c.args.world.now) (stmt_of c.args.stmt.now) in
    subst (λ z. IfOk c.follow_stmt.result (λ v. Follows c.follow_stmt.new.terms v.items z))
    (sym (unsent_goes f a s (inputs_in a) (not_some s.sent (sym c.has_sent.ensures ∙ c.if-has_sent.false)))) c.follow_stmt.ensures.follows

-- ---- two branches

pub follow_both-follow_block-requires : goal.follow_both-follow_block-requires
follow_both-follow_block-requires t c =
    (omega arith, (c.requires.ready, subst (λ ss. CanFollow c.args.world.now c.args.terms.now ss (block_of (map stmt_of c.args.first.1.now))) (sym c.in_ok-ways.ensures) c.requires.first))

pub follow_both-follow_block-requires-2 : goal.follow_both-follow_block-requires-2
follow_both-follow_block-requires-2 t c =
    let w = c.args.world.now in
    let a = c.args.terms.now in
    let b = c.follow_block.new.terms in
    let B = block_of (map stmt_of c.args.second.1.now) in
    (omega arith, (c.requires.ready, subst (λ ss. CanFollow w b ss B) (sym c.in_ok-ways-2.ensures) (can_on w a b (c.args.second.0 ∷ []) B c.follow_block.ensures.kept c.requires.second)))

pub follow_both-returns-clause-follows : goal.follow_both-returns-clause-follows
follow_both-returns-clause-follows t c =
    let w = c.args.world.now in
    let T = world_in w in
    let a = c.args.terms.now in
    let b = c.follow_block.new.terms in
    let z = c.follow_block-2.new.terms in
    let A = block_of (map stmt_of c.args.first.1.now) in
    let B = block_of (map stmt_of c.args.second.1.now) in
    let states = c.in_ok-states.states.items in
    let others = c.in_ok-others.others.items in
    let r : Followed = follow_all T A (states_of a (c.args.first.0 ∷ []), inputs_in a) in
    let f : ℕ → Followed = λ m. follow_all T B (states_of a (c.args.second.0 ∷ []), m) in
    let k : Follows b states r = subst (λ ss. Follows b states (follow_all T A (states_of a ss, inputs_in a))) c.in_ok-ways.ensures c.in_ok-states.ensures.follows in
    let l : Follows z others (follow_all T B (states_of b (c.args.second.0 ∷ []), inputs_in b)) =
    subst (λ ss. Follows z others (follow_all T B (states_of b ss, inputs_in b))) c.in_ok-ways-2.ensures c.in_ok-others.ensures.follows in
    let there = first_there w a c.args.second.0 B c.requires.second in
    let l2 : Follows z others (f (inputs_in b)) =
    subst (λ ts. Follows z others (follow_all T B (ts, inputs_in b))) (states_on a b (c.args.second.0 ∷ []) c.follow_block.ensures.kept (one_all (IsThere a) c.args.second.0 there)) l in
    let items : c.append.new.self.items ≡ states ++ others = search rules in
    subst (λ ss. Follows z ss (then_those r f)) (sym items) (follows_both b z states others r f c.follow_block-2.ensures.kept k l2)

pub follow_both-returns-clause-kept : goal.follow_both-returns-clause-kept
follow_both-returns-clause-kept t c = keeps-both c.args.terms.now c.follow_block.new.terms c.follow_block-2.new.terms c.follow_block.ensures.kept c.follow_block-2.ensures.kept

pub follow_both-returns-in_err-others-clause-kept : goal.follow_both-returns-in_err-others-clause-kept
follow_both-returns-in_err-others-clause-kept t c = keeps-both c.args.terms.now c.follow_block.new.terms c.follow_block-2.new.terms c.follow_block.ensures.kept c.follow_block-2.ensures.kept

pub follow_both-returns-in_err-append-clause-kept : goal.follow_both-returns-in_err-append-clause-kept
follow_both-returns-in_err-append-clause-kept t c = keeps-both c.args.terms.now c.follow_block.new.terms c.follow_block-2.new.terms c.follow_block.ensures.kept c.follow_block-2.ensures.kept

-- ---- an `if`

pub follow_if-branches-requires-clause-can : goal.follow_if-branches-requires-clause-can
follow_if-branches-requires-clause-can t c =
    if_condition c.args.world.now c.args.terms.now c.args.state (expr_of c.args.condition.now) (block_of (map stmt_of c.args.first.now)) (block_of (map stmt_of c.args.second.now)) c.requires.can

pub follow_if-follow_both-requires : goal.follow_if-follow_both-requires
follow_if-follow_both-requires t c =
    let w = c.args.world.now in
    let a = c.args.terms.now in
    let b = c.branches.new.terms in
    let s = c.args.state in
    let can = c.requires.can in
    let u = term_at (world_in w) (state_of a s) (expr_of c.args.condition.now) in (
      omega arith,
      (
        c.requires.ready,
        (
          can_branch w c.requires.ready a b s c.branches.new.first u true can.vars (block_of (map stmt_of c.args.first.now)) can.unsent can.stands can.typed.1 c.in_ok-other.ensures.first,
          can_branch w c.requires.ready a b s c.in_ok-other.other u false can.vars (block_of (map stmt_of c.args.second.now)) can.unsent can.stands can.typed.2 c.in_ok-other.ensures.second,
        ),
      ),
    )

pub follow_if-returns-clause-follows : goal.follow_if-returns-clause-follows
follow_if-returns-clause-follows t c =
    let w = c.args.world.now in
    let a = c.args.terms.now in
    let b = c.branches.new.terms in
    let z = c.follow_both.new.terms in
    let s = c.args.state in
    let A = block_of (map stmt_of c.args.first.now) in
    let B = block_of (map stmt_of c.args.second.now) in
    let many : c.len-count.result ≡ length s.variables.items = search rules in
    IfOk-weaker c.cut.result _ _
    (λ v h. subst (Follows z v.items)
    (if_is w c.requires.ready a b s c.branches.new.first c.in_ok-other.other (expr_of c.args.condition.now) A B c.len-count.result c.requires.can c.in_ok-other.ensures.first c.in_ok-other.ensures.second c.branches.ensures.inputs many)
    (h z _ c.in_ok-states.ensures.follows))
    c.cut.ensures

pub follow_if-returns-clause-kept : goal.follow_if-returns-clause-kept
follow_if-returns-clause-kept t c = keeps-both c.args.terms.now c.branches.new.terms c.follow_both.new.terms c.branches.ensures.kept c.follow_both.ensures.kept

pub follow_if-returns-in_err-states-clause-kept : goal.follow_if-returns-in_err-states-clause-kept
follow_if-returns-in_err-states-clause-kept t c = keeps-both c.args.terms.now c.branches.new.terms c.follow_both.new.terms c.branches.ensures.kept c.follow_both.ensures.kept

-- ---- a `fork`

pub follow_fork-enter_fork-requires-clause-width : goal.follow_fork-enter_fork-requires-clause-width
follow_fork-enter_fork-requires-clause-width t c = declared_width c.args.width c.requires.can.typed.0

pub follow_fork-enter_fork-requires-clause-can : goal.follow_fork-enter_fork-requires-clause-can
follow_fork-enter_fork-requires-clause-can t c =
    fork_condition c.args.world.now c.args.terms.now c.args.state (name_of c.args.name.now) c.args.width (expr_of c.args.condition.now) (block_of (map stmt_of c.args.body.now)) c.requires.can

pub follow_fork-follow_block-requires : goal.follow_fork-follow_block-requires
follow_fork-follow_block-requires t c =
    let w = c.args.world.now in
    let b = c.enter_fork.new.terms in
    let B = block_of (map stmt_of c.args.body.now) in (
      omega arith,
      (
        c.requires.ready,
        subst (λ ss. CanFollow w b ss B) (sym c.in_ok-states.ensures)
            (can_fork w c.requires.ready c.args.terms.now b c.args.state c.enter_fork.new.state (name_of c.args.name.now) c.args.width (expr_of c.args.condition.now) B c.requires.can c.in_ok-enter_fork.ensures.enters),
      ),
    )

pub follow_fork-returns-clause-follows : goal.follow_fork-returns-clause-follows
follow_fork-returns-clause-follows t c =
    let w = c.args.world.now in
    let a = c.args.terms.now in
    let b = c.enter_fork.new.terms in
    let z = c.follow_block.new.terms in
    let B = block_of (map stmt_of c.args.body.now) in
    let first = c.enter_fork.new.state in
    let states = c.in_ok-states-2.states.items in
    let k : Follows z states (follow_all (world_in w) B (states_of b (first ∷ []), inputs_in b)) =
    subst (λ ss. Follows z states (follow_all (world_in w) B (states_of b ss, inputs_in b))) c.in_ok-states.ensures c.in_ok-states-2.ensures.follows in
    IfOk-weaker c.those_sent.result _ _
    (λ v h. subst (Follows z v.items)
    (fork_is w a b c.args.state first (name_of c.args.name.now) c.args.width (expr_of c.args.condition.now) B c.in_ok-enter_fork.ensures.enters c.in_ok-enter_fork.ensures.next)
    (h z _ k))
    c.those_sent.ensures

pub follow_fork-returns-clause-kept : goal.follow_fork-returns-clause-kept
follow_fork-returns-clause-kept t c = keeps-both c.args.terms.now c.enter_fork.new.terms c.follow_block.new.terms c.enter_fork.ensures.kept c.follow_block.ensures.kept

pub follow_fork-returns-in_err-states-2-clause-kept : goal.follow_fork-returns-in_err-states-2-clause-kept
follow_fork-returns-in_err-states-2-clause-kept t c = keeps-both c.args.terms.now c.enter_fork.new.terms c.follow_block.new.terms c.enter_fork.ensures.kept c.follow_block.ensures.kept

-- ---- statements with blocks

pub follow_stmt-follow_if-requires : goal.follow_stmt-follow_if-requires
follow_stmt-follow_if-requires t c =
    let w = c.args.world.now in
    let a = c.args.terms.now in
    let e = expr_of c.in-If.condition in
    let A = block_of (map stmt_of c.deref.result.now) in
    let B = block_of (map stmt_of c.deref-in-If.result.now) in
    let is : stmt_of c.args.stmt.now ≡ if_ c.args.stmt.now.at e A B = search (rules, kinds.the_lemmas, c.in-If.is) in
    let much : size (stmt_of c.args.stmt.now) ≡ 1 + (size_all A + size_all B) = ap size is in
    (omega (arith, much), (c.requires.ready, same_if w a c.args.state c.args.stmt.now.at e A B (subst (CanDo w a c.args.state) is c.requires.can)))

pub follow_stmt-returns-in-If-clause-follows : goal.follow_stmt-returns-in-If-clause-follows
follow_stmt-returns-in-If-clause-follows t c =
    let w = c.args.world.now in
    let a = c.args.terms.now in
    let e = expr_of c.in-If.condition in
    let A = block_of (map stmt_of c.deref.result.now) in
    let B = block_of (map stmt_of c.deref-in-If.result.now) in
    let is : stmt_of c.args.stmt.now ≡ if_ c.args.stmt.now.at e A B = search (rules, kinds.the_lemmas, c.in-If.is) in
    subst (λ x. IfOk c.follow_if.result (λ v. Follows c.follow_if.new.terms v.items (follow (world_in w) x (state_of a c.args.state) (inputs_in a)))) (sym is) c.follow_if.ensures.follows

pub follow_stmt-follow_fork-requires : goal.follow_stmt-follow_fork-requires
follow_stmt-follow_fork-requires t c =
    let w = c.args.world.now in
    let a = c.args.terms.now in
    let x = name_of c.in-Fork.name in
    let e = expr_of c.in-Fork.condition in
    let B = block_of (map stmt_of c.deref-in-Fork.result.now) in
    let is : stmt_of c.args.stmt.now ≡ fork c.args.stmt.now.at x c.in-Fork.width e B = search (rules, kinds.the_lemmas, c.in-Fork.is) in
    let much : size (stmt_of c.args.stmt.now) ≡ 1 + size_all B = ap size is in
    (omega (arith, much), (c.requires.ready, same_fork w a c.args.state c.args.stmt.now.at x c.in-Fork.width e B (subst (CanDo w a c.args.state) is c.requires.can)))

pub follow_stmt-returns-in-Fork-clause-follows : goal.follow_stmt-returns-in-Fork-clause-follows
follow_stmt-returns-in-Fork-clause-follows t c =
    let w = c.args.world.now in
    let a = c.args.terms.now in
    let x = name_of c.in-Fork.name in
    let e = expr_of c.in-Fork.condition in
    let B = block_of (map stmt_of c.deref-in-Fork.result.now) in
    let is : stmt_of c.args.stmt.now ≡ fork c.args.stmt.now.at x c.in-Fork.width e B = search (rules, kinds.the_lemmas, c.in-Fork.is) in
    subst (λ y. IfOk c.follow_fork.result (λ v. Follows c.follow_fork.new.terms v.items (follow (world_in w) y (state_of a c.args.state) (inputs_in a)))) (sym is) c.follow_fork.ensures.follows
