-- Statements with blocks, part by part.
use Rattle.std.specs.Prelude.{◌≡◌, ℕ, zero, suc, ◌+◌, Bool, true, false, List, [], ◌∷◌, map, slice_get, Result, Ok, Err, if◌then◌else◌, codes, refl}
use Rattle.std.proofs.Common.{Vec, Global, ◌∙◌, ap, subst, arith}
use Rattle.cocoon_num.specs.Tokens.{Kind}
use Rattle.cocoon_num.specs.Tree.{Expr, Block, no_stmts, Param, Stmt, if_, fork, stmt}
use Rattle.cocoon_num.specs.Reads.{of_expr}
use Rattle.cocoon_syntax.specs.TreeOf.{block_of, expr_of, name_of, param_of, stmt_of}
use Rattle.cocoon_syntax.specs.declared.decl.Param.{Param as CodeParam}
use Rattle.cocoon_syntax.specs.declared.expr.Expr.{Expr as CodeExpr}
use Rattle.cocoon_syntax.specs.declared.stmt.Stmt.{Stmt as CodeStmt}
use Rattle.parsing.specs.PlainParser.{Outcome, good, bad, spent, after, marked, is_mark, is_keyword, param_from, expr_from, many_from, closes, stmt_from, stmts_from, block_from, if_from, fork_from}
use Rattle.cocoon_text.specs.ExprPhrases.{then_mark}
use Rattle.cocoon_text.specs.Phrases.{Guarded, Choosing, tested_from, guarded_from, guarded_of, otherwise_from, choosing_from, choosing_of}
use Rattle.cocoon_text.specs.Agrees.{Agrees, AgreesDeep, with_mark}
use Rattle.parsing.specs.Joins.{Makes, with_first}
use Rattle.parsing.specs.declared.stop.Stop.{Stop}
use Rattle.parsing.specs.declared.stop.Stop.TheVariants.{Unexpected, NoMemory}
use Rattle.cocoon_text.proofs.Chains.{listed}
use Rattle.cocoon_text.proofs.Eventually.{Eventually, by_one, eventual_read, agrees_deeper, agrees_as, agrees_made, agrees_marked, agrees_with_first, after_read}

-- the block of statements of the code
abbrev pub blocks : Vec CodeStmt Global → Block
blocks v = block_of (map stmt_of v.items)

pub block_agrees : (ts : List Kind) (i from : ℕ) (read result : Result (Vec CodeStmt Global × ℕ) Stop) → is_mark (codes "{") (slice_get ts i) ≡ true → from ≡ suc i → AgreesDeep (λ n. stmts_from ts n from) blocks read → result ≡ with_mark ts (codes "}") read → AgreesDeep (λ n. block_from ts n i) blocks result
unfolding marked
block_agrees ts i from read result t q p e = agrees_deeper (agrees_as (λ n. rw t refl) (agrees_marked ts (codes "}") (λ n. stmts_from ts n (suc i)) blocks read result (subst (λ z. AgreesDeep (λ n. stmts_from ts n z) blocks read) q p) e))

pub guarded_agrees : (ts : List Kind) (i : ℕ) {a : CodeExpr} {j : ℕ} (read : Result (Vec CodeStmt Global × ℕ) Stop) (result : Result ((CodeExpr × Vec CodeStmt Global) × ℕ) Stop) → AgreesDeep (λ n. tested_from ts (expr_from ts n of_expr) i) expr_of (Ok (a, j)) → AgreesDeep (λ n. block_from ts n j) blocks read → result ≡ with_first a read →
    AgreesDeep (λ n. guarded_from ts (expr_from ts n of_expr) (block_from ts n) i) guarded_of result
guarded_agrees ts i read result p q e = agrees_with_first expr_of (λ n j. block_from ts n j) blocks (λ x y. record { condition = x; body = y }) read result p q e

pub choosing_agrees : (ts : List Kind) (i : ℕ) {a : CodeParam} {j : ℕ} (read : Result (CodeExpr × ℕ) Stop) (result : Result ((CodeParam × CodeExpr) × ℕ) Stop) → is_mark (codes "(") (slice_get ts i) ≡ true → AgreesDeep (λ n. then_mark ts (codes "|") (param_from ts (i + 1))) param_of (Ok (a, j)) → AgreesDeep (λ n. then_mark ts (codes ")") (expr_from ts n of_expr j)) expr_of read → result ≡ with_first a read →
    AgreesDeep (λ n. choosing_from ts (expr_from ts n of_expr) i) choosing_of result
unfolding marked
choosing_agrees ts i read result t p q e = agrees_as (λ n. rw t refl) (agrees_with_first param_of (λ n j. then_mark ts (codes ")") (expr_from ts n of_expr j)) expr_of (λ x y. record { variable = x; condition = y }) read result p q e)

pub choosing_fails : (ts : List Kind) (i k : ℕ) → is_mark (codes "(") (slice_get ts i) ≡ true → Eventually (λ n. then_mark ts (codes "|") (param_from ts (i + 1))) (bad k) → Eventually (λ n. choosing_from ts (expr_from ts n of_expr) i) (bad k)
unfolding after marked
choosing_fails ts i k t p = by_one p (λ n e. rw (t, e) refl)

-- ---- lists of statements

one_stmt : (a : Stmt) (r : Outcome (List Stmt)) (s : Outcome Block) → s ≡ listed block_of r → after s (λ b k. good (stmt a b) k) ≡ listed block_of (after r (λ xs k. good (a ∷ xs) k))
unfolding after
one_stmt a (good xs k) s e = rw e refl
one_stmt a (bad i) s e = rw e refl
one_stmt a spent s e = rw e refl

same_stmts : (ts : List Kind) (n i : ℕ) → stmts_from ts n i ≡ listed block_of (many_from (stmt_from ts) (closes ts) n i)
unfolding after
same_stmts ts zero i = refl
same_stmts ts (suc n) i = by (same_stmts ts n) (is_mark (codes "}") (slice_get ts i)) (stmt_from ts n i)
  where
    by : ((j : ℕ) → stmts_from ts n j ≡ listed block_of (many_from (stmt_from ts) (closes ts) n j)) → (b : Bool) (r : Outcome Stmt) → (if b then good no_stmts i else after r (λ s j. after (stmts_from ts n j) (λ b k. good (stmt s b) k))) ≡
        listed block_of (if b then good [] i else after r (λ x j. after (many_from (stmt_from ts) (closes ts) n j) (λ xs k. good (x ∷ xs) k)))
    by ih true r = refl
    by ih false (good s j) = one_stmt s _ _ (ih j)
    by ih false (bad k) = refl
    by ih false spent = refl

pub as_block : (ts : List Kind) (i : ℕ) {result : Result (Vec CodeStmt Global × ℕ) Stop} → AgreesDeep (λ n. many_from (stmt_from ts) (closes ts) n i) (λ v. map stmt_of v.items) result → AgreesDeep (λ n. stmts_from ts n i) (λ v. block_of (map stmt_of v.items)) result
as_block ts i {result = result} p = record { depth = p.depth; agrees = λ n h. over n result (p.agrees n h) }
  where
    over : (n : ℕ) (s : Result (Vec CodeStmt Global × ℕ) Stop) → Agrees (many_from (stmt_from ts) (closes ts) n i) (λ v. map stmt_of v.items) s → Agrees (stmts_from ts n i) (λ v. block_of (map stmt_of v.items)) s
    over n (Ok x) e = same_stmts ts n i ∙ ap (listed block_of) e
    over n (Err (Unexpected k)) e = same_stmts ts n i ∙ ap (listed block_of) e
    over n (Err NoMemory) e = tt

abbrev guard : Expr → Block → ℕ → Outcome Guarded
guard x a k = good (record { condition = x; body = a }) k

abbrev choose : Param → Expr → ℕ → Outcome Choosing
choose p x k = good (record { variable = p; condition = x }) k

-- ---- if

otherwise_same : (ts : List Kind) (b : ℕ → Outcome Block) (i : ℕ) (x : Expr) (a : Block) (k : ℕ) → (if is_keyword (codes "else") (slice_get ts k) then after (b (suc k)) (λ c l. good (if_ i x a c) l) else good (if_ i x a no_stmts) k) ≡ after (otherwise_from ts b k) (λ c l. good (if_ i x a c) l)
unfolding after
otherwise_same ts b i x a k = by (is_keyword (codes "else") (slice_get ts k))
  where
    by : (t : Bool) → (if t then after (b (suc k)) (λ c l. good (if_ i x a c) l) else good (if_ i x a no_stmts) k) ≡ after (if t then b (suc k) else good no_stmts k) (λ c l. good (if_ i x a c) l)
    by true = refl
    by false = refl

if_same : (ts : List Kind) (e : ℕ → Outcome Expr) (b : ℕ → Outcome Block) (i : ℕ) → if_from ts e b i ≡ after (guarded_from ts e b (i + 1)) (λ g k. after (otherwise_from ts b k) (λ c l. good (if_ i g.condition g.body c) l))
unfolding if_from after marked
if_same ts e b i = by (is_mark (codes "(") (slice_get ts (i + 1)))
  where
    rest : Expr → Block → ℕ → Outcome Stmt
    rest x a k = if is_keyword (codes "else") (slice_get ts k) then after (b (suc k)) (λ c l. good (if_ i x a c) l) else good (if_ i x a no_stmts) k

    third : (x : Expr) (r : Outcome Block) → after r (λ a k. rest x a k) ≡ after (after r (guard x)) (λ g k. after (otherwise_from ts b k) (λ c l. good (if_ i g.condition g.body c) l))
    third x (good a k) = otherwise_same ts b i x a k
    third x (bad m) = refl
    third x spent = refl

    second : (x : Expr) (j : ℕ) (t : Bool) → (if t then after (b (suc j)) (λ a k. rest x a k) else bad j) ≡ after (after (if t then good x (suc j) else bad j) (λ x j. after (b j) (guard x))) (λ g k. after (otherwise_from ts b k) (λ c l. good (if_ i g.condition g.body c) l))
    second x j true = third x (b (suc j))
    second x j false = refl

    first : (r : Outcome Expr) → after r (λ x j. marked ts (codes ")") j (after (b (suc j)) (λ a k. rest x a k))) ≡ after (after (then_mark ts (codes ")") r) (λ x j. after (b j) (guard x))) (λ g k. after (otherwise_from ts b k) (λ c l. good (if_ i g.condition g.body c) l))
    first (good x j) = second x j (is_mark (codes ")") (slice_get ts j))
    first (bad m) = refl
    first spent = refl

    by : (t : Bool) → (if t then after (e (i + 2)) (λ x j. marked ts (codes ")") j (after (b (suc j)) (λ a k. rest x a k))) else bad (i + 1)) ≡
        after (after (if t then then_mark ts (codes ")") (e (i + 1 + 1)) else bad (i + 1)) (λ x j. after (b j) (guard x))) (λ g k. after (otherwise_from ts b k) (λ c l. good (if_ i g.condition g.body c) l))
    by true = ap (λ z. after (e z) (λ x j. marked ts (codes ")") j (after (b (suc j)) (λ a k. rest x a k)))) (let q : i + 2 ≡ i + 1 + 1 = omega arith in q) ∙ first (e (i + 1 + 1))
    by false = refl

pub if_agrees : (ts : List Kind) (i at : ℕ) (p : CodeExpr × Vec CodeStmt Global) {j : ℕ} (read : Result (Vec CodeStmt Global × ℕ) Stop) (result : Result (CodeStmt × ℕ) Stop) → at ≡ i → AgreesDeep (λ n. guarded_from ts (expr_from ts n of_expr) (block_from ts n) (i + 1)) guarded_of (Ok (p, j)) → AgreesDeep (λ n. otherwise_from ts (block_from ts n) j) blocks read →
    Makes blocks stmt_of (λ b. if_ at (expr_of p.0) (blocks p.1) b) read result → AgreesDeep (λ n. if_from ts (expr_from ts n of_expr) (block_from ts n) i) stmt_of result
if_agrees ts i at p {j = j} read result s g q e = agrees_as (λ n. if_same ts (expr_from ts n of_expr) (block_from ts n) i)
    (after_read (λ n g k. after (otherwise_from ts (block_from ts n) k) (λ c l. good (if_ i g.condition g.body c) l)) stmt_of (eventual_read guarded_of g)
    (agrees_made (λ n. otherwise_from ts (block_from ts n) j) blocks stmt_of (λ b. if_ i (expr_of p.0) (blocks p.1) b) read result q (subst (λ z. Makes blocks stmt_of (λ b. if_ z (expr_of p.0) (blocks p.1) b) read result) s e)))

-- ---- fork

fork_same : (ts : List Kind) (e : ℕ → Outcome Expr) (b : ℕ → Outcome Block) (i : ℕ) → fork_from ts e b i ≡ after (choosing_from ts e (i + 1)) (λ g k. after (b k) (λ a l. good (fork i g.variable.name g.variable.width g.condition a) l))
unfolding fork_from after marked
fork_same ts e b i = by (is_mark (codes "(") (slice_get ts (i + 1)))
  where
    third : (p : Param) (x : Expr) (k : ℕ) (t : Bool) → (if t then after (b (suc k)) (λ a l. good (fork i p.name p.width x a) l) else bad k) ≡ after (after (if t then good x (suc k) else bad k) (choose p)) (λ g k. after (b k) (λ a l. good (fork i g.variable.name g.variable.width g.condition a) l))
    third p x k true = refl
    third p x k false = refl

    inner : (p : Param) (r : Outcome Expr) → after r (λ x k. marked ts (codes ")") k (after (b (suc k)) (λ a l. good (fork i p.name p.width x a) l))) ≡ after (after (then_mark ts (codes ")") r) (choose p)) (λ g k. after (b k) (λ a l. good (fork i g.variable.name g.variable.width g.condition a) l))
    inner p (good x k) = third p x k (is_mark (codes ")") (slice_get ts k))
    inner p (bad m) = refl
    inner p spent = refl

    second : (p : Param) (j : ℕ) (t : Bool) → (if t then after (e (suc j)) (λ x k. marked ts (codes ")") k (after (b (suc k)) (λ a l. good (fork i p.name p.width x a) l))) else bad j) ≡ after (after (if t then good p (suc j) else bad j) (λ x j. after (then_mark ts (codes ")") (e j)) (choose x))) (λ g k. after (b k) (λ a l. good (fork i g.variable.name g.variable.width g.condition a) l))
    second p j true = inner p (e (suc j))
    second p j false = refl

    first : (r : Outcome Param) → after r (λ p j. marked ts (codes "|") j (after (e (suc j)) (λ x k. marked ts (codes ")") k (after (b (suc k)) (λ a l. good (fork i p.name p.width x a) l))))) ≡
        after (after (then_mark ts (codes "|") r) (λ x j. after (then_mark ts (codes ")") (e j)) (choose x))) (λ g k. after (b k) (λ a l. good (fork i g.variable.name g.variable.width g.condition a) l))
    first (good p j) = second p j (is_mark (codes "|") (slice_get ts j))
    first (bad m) = refl
    first spent = refl

    by : (t : Bool) → (if t then after (param_from ts (i + 2)) (λ p j. marked ts (codes "|") j (after (e (suc j)) (λ x k. marked ts (codes ")") k (after (b (suc k)) (λ a l. good (fork i p.name p.width x a) l))))) else bad (i + 1)) ≡
        after (if t then after (then_mark ts (codes "|") (param_from ts (i + 1 + 1))) (λ x j. after (then_mark ts (codes ")") (e j)) (choose x)) else bad (i + 1)) (λ g k. after (b k) (λ a l. good (fork i g.variable.name g.variable.width g.condition a) l))
    by true = ap (λ z. after (param_from ts z) (λ p j. marked ts (codes "|") j (after (e (suc j)) (λ x k. marked ts (codes ")") k (after (b (suc k)) (λ a l. good (fork i p.name p.width x a) l)))))) (let q : i + 2 ≡ i + 1 + 1 = omega arith in q) ∙ first (param_from ts (i + 1 + 1))
    by false = refl

pub fork_agrees : (ts : List Kind) (i at : ℕ) (p : CodeParam × CodeExpr) {j : ℕ} (read : Result (Vec CodeStmt Global × ℕ) Stop) (result : Result (CodeStmt × ℕ) Stop) → at ≡ i → AgreesDeep (λ n. choosing_from ts (expr_from ts n of_expr) (i + 1)) choosing_of (Ok (p, j)) → AgreesDeep (λ n. block_from ts n j) blocks read →
    Makes blocks stmt_of (λ b. fork at (name_of p.0.name) p.0.width (expr_of p.1) b) read result → AgreesDeep (λ n. fork_from ts (expr_from ts n of_expr) (block_from ts n) i) stmt_of result
fork_agrees ts i at p {j = j} read result s g q e = agrees_as (λ n. fork_same ts (expr_from ts n of_expr) (block_from ts n) i)
    (after_read (λ n g k. after (block_from ts n k) (λ a l. good (fork i g.variable.name g.variable.width g.condition a) l)) stmt_of (eventual_read choosing_of g)
    (agrees_made (λ n. block_from ts n j) blocks stmt_of (λ b. fork i (name_of p.0.name) p.0.width (expr_of p.1) b) read result q (subst (λ z. Makes blocks stmt_of (λ b. fork z (name_of p.0.name) p.0.width (expr_of p.1) b) read result) s e)))

-- where the first part of one fails, it does
pub if_fails : (ts : List Kind) (i k : ℕ) → Eventually (λ n. guarded_from ts (expr_from ts n of_expr) (block_from ts n) (i + 1)) (bad k) → Eventually (λ n. if_from ts (expr_from ts n of_expr) (block_from ts n) i) (bad k)
unfolding after
if_fails ts i k p = by_one p (λ n e. if_same ts (expr_from ts n of_expr) (block_from ts n) i ∙ ap (λ z. after z (λ g k. after (otherwise_from ts (block_from ts n) k) (λ c l. good (if_ i g.condition g.body c) l))) e)

pub fork_fails : (ts : List Kind) (i k : ℕ) → Eventually (λ n. choosing_from ts (expr_from ts n of_expr) (i + 1)) (bad k) → Eventually (λ n. fork_from ts (expr_from ts n of_expr) (block_from ts n) i) (bad k)
unfolding after
fork_fails ts i k p = by_one p (λ n e. fork_same ts (expr_from ts n of_expr) (block_from ts n) i ∙ ap (λ z. after z (λ g k. after (block_from ts n k) (λ a l. good (fork i g.variable.name g.variable.width g.condition a) l))) e)
