-- Expressions, part by part. Chains go loop by loop: the rest of a run is the run.
use Rattle.std.specs.Prelude.{◌≡◌, ℕ, zero, suc, ◌+◌, ◌==◌, Bool, true, false, List, [], ◌∷◌, map, slice_get, Option, Some, None, Result, Ok, Err, if◌then◌else◌, codes, refl}
use Rattle.std.proofs.Common.{Vec, Global, sym, ◌∙◌, ap, subst}
use Rattle.std.proofs.lemmas.Bool.{eq-eqb, eqb-true}
use Rattle.cocoon_num.specs.Values.{BinaryOp, flip, not_}
use Rattle.cocoon_num.specs.Tokens.{Kind, a_name, keyword, plain, literal, mark, finish}
use Rattle.cocoon_num.specs.Tree.{Name, Expr, Exprs, call, expr, no_exprs, unary, binary, slice, pick, token_index}
use Rattle.cocoon_num.specs.Reads.{Level, of_expr, of_unary, of_post, of_prim}
use Rattle.cocoon_syntax.specs.TreeOf.{expr_of, exprs_of}
use Rattle.cocoon_syntax.specs.declared.expr.Expr.{Expr as CodeExpr}
use Rattle.cocoon_text.specs.ExprPhrases.{level_of, name_or_call, part_of, then_mark, Sides, sides_from, sides_of, RangeAt, leaf_from}
use Rattle.parsing.specs.PlainParser.{Outcome, good, bad, spent, after, marked, named, name_at, picked, bracketed, implied, is_mark, is_keyword, op_at, expr_from, rest_from, exprs_from, commas_from, sliced, by_op, prim_of, path_from, reserved}
use Rattle.cocoon_text.specs.Agrees.{Agrees, AgreesDeep, is_name_token, with_mark}
use Rattle.parsing.specs.Joins.{Makes, with_first}
use Rattle.cocoon_num.specs.Names.{same_name}
use Rattle.parsing.specs.declared.stop.Stop.{Stop}
use Rattle.parsing.specs.declared.stop.Stop.TheVariants.{Unexpected, NoMemory}
use Rattle.cocoon_text.specs.declared.operators.Chain.{Chain}
use Rattle.cocoon_text.specs.declared.operators.Chain.TheVariants.{Or, And, Concat, Bits, Sum}
use Rattle.cocoon_text.proofs.Eventually.{Eventually, by_one, by_two, deeper, flat, agrees_deeper, eventual_read, fails_as, agrees_as, agrees_made, agrees_marked, agrees_with_first, after_read, then_same}

-- what G gives, F gives
pub record Rest {A : Type 0} (F G : ℕ → Outcome A) : Type 0 where
  pub carries : (r : Outcome A) → Eventually G r → Eventually F r

-- ---- chains of operators

opens : (ts : List Kind) (n : ℕ) (c : Chain) (i : ℕ) → expr_from ts (suc n) (level_of c) i ≡ after (expr_from ts n (part_of c) i) (rest_from ts n (level_of c))
opens ts n Or i = refl
opens ts n And i = refl
opens ts n Concat i = refl
opens ts n Bits i = refl
opens ts n Sum i = refl

chain_steps : (ts : List Kind) (n : ℕ) (c : Chain) (a : Expr) (j : ℕ) (op : BinaryOp) → op_at (level_of c) (slice_get ts j) ≡ Some op → rest_from ts (suc n) (level_of c) a j ≡ after (expr_from ts n (part_of c) (suc j)) (λ b k. rest_from ts n (level_of c) (binary (token_index a) op a b) k)
chain_steps ts n Or a j op e = rw e refl
chain_steps ts n And a j op e = rw e refl
chain_steps ts n Concat a j op e = rw e refl
chain_steps ts n Bits a j op e = rw e refl
chain_steps ts n Sum a j op e = rw e refl

stops : (ts : List Kind) (n : ℕ) (c : Chain) (a : Expr) (j : ℕ) → op_at (level_of c) (slice_get ts j) ≡ None → rest_from ts (suc n) (level_of c) a j ≡ good a j
stops ts n Or a j e = rw e refl
stops ts n And a j e = rw e refl
stops ts n Concat a j e = rw e refl
stops ts n Bits a j e = rw e refl
stops ts n Sum a j e = rw e refl

pub chain_begins : (ts : List Kind) (c : Chain) (i : ℕ) {a : Expr} {j : ℕ} → Eventually (λ n. expr_from ts n (part_of c) i) (good a j) → Rest (λ n. expr_from ts n (level_of c) i) (λ n. rest_from ts n (level_of c) a j)
unfolding after
chain_begins ts c i {a = a} {j = j} p = record { carries = λ r g. deeper (by_two p g (λ n e f. opens ts n c i ∙ ap (λ z. after z (rest_from ts n (level_of c))) e ∙ f)) }

pub chain_fails : (ts : List Kind) (c : Chain) (i : ℕ) (k : ℕ) → Eventually (λ n. expr_from ts n (part_of c) i) (bad k) → Eventually (λ n. expr_from ts n (level_of c) i) (bad k)
unfolding after
chain_fails ts c i k p = deeper (by_one p (λ n e. opens ts n c i ∙ ap (λ z. after z (rest_from ts n (level_of c))) e))

pub chain_more : (ts : List Kind) (c : Chain) (a : Expr) (j k : ℕ) (op : BinaryOp) {F : ℕ → Outcome Expr} {b : Expr} {l : ℕ} {both : Expr} → Rest F (λ n. rest_from ts n (level_of c) a j) → op_at (level_of c) (slice_get ts j) ≡ Some op → k ≡ suc j → Eventually (λ n. expr_from ts n (part_of c) k) (good b l) → both ≡ binary (token_index a) op a b → Rest F (λ n. rest_from ts n (level_of c) both l)
unfolding after
chain_more ts c a j k op {b = b} {l = l} {both = both} s t q p e = record {
  carries = λ r g. s.carries r (deeper (by_two (subst (λ z. Eventually (λ n. expr_from ts n (part_of c) z) (good b l)) q p) g (λ n f h.
      chain_steps ts n c a j op t ∙ ap (λ z. after z (λ x m. rest_from ts n (level_of c) (binary (token_index a) op a x) m)) f ∙ ap (λ z. rest_from ts n (level_of c) z l) (sym e) ∙ h)));
}

pub chain_broken : (ts : List Kind) (c : Chain) (a : Expr) (j k : ℕ) (op : BinaryOp) {F : ℕ → Outcome Expr} → Rest F (λ n. rest_from ts n (level_of c) a j) → op_at (level_of c) (slice_get ts j) ≡ Some op → k ≡ suc j → (i : ℕ) → Eventually (λ n. expr_from ts n (part_of c) k) (bad i) → Eventually F (bad i)
unfolding after
chain_broken ts c a j k op s t q i p = s.carries (bad i) (deeper (by_one (subst (λ z. Eventually (λ n. expr_from ts n (part_of c) z) (bad i)) q p) (λ n f.
    chain_steps ts n c a j op t ∙ ap (λ z. after z (λ x m. rest_from ts n (level_of c) (binary (token_index a) op a x) m)) f)))

pub chain_ends : (ts : List Kind) (c : Chain) (a : Expr) (j : ℕ) {F : ℕ → Outcome Expr} → Rest F (λ n. rest_from ts n (level_of c) a j) → op_at (level_of c) (slice_get ts j) ≡ None → Eventually F (good a j)
chain_ends ts c a j s t = s.carries (good a j) (deeper (flat (λ n. stops ts n c a j t)))

-- the next part of a chain, and what is made of it
pub chain_goes : (ts : List Kind) (c : Chain) (a : Expr) (j k : ℕ) (op : BinaryOp) {F : ℕ → Outcome Expr} (read : Result (CodeExpr × ℕ) Stop) (both : CodeExpr) {l : ℕ} → Rest F (λ n. rest_from ts n (level_of c) a j) → op_at (level_of c) (slice_get ts j) ≡ Some op → k ≡ suc j → AgreesDeep (λ n. expr_from ts n (part_of c) k) expr_of read → Makes expr_of expr_of (λ b. binary (token_index a) op a b) read (Ok (both, l)) → Rest F (λ n. rest_from ts n (level_of c) (expr_of both) l)
chain_goes ts c a j k op {F = F} (Ok found) both s t q r e = subst (λ z. Rest F (λ n. rest_from ts n (level_of c) (expr_of both) z)) (sym e.1) (chain_more ts c a j k op s t q (eventual_read expr_of r) e.0)
chain_goes ts c a j k op {F = F} (Err stop) both s t q r e = absurd cc

pub chain_stopped : (ts : List Kind) (c : Chain) (a : Expr) (j k : ℕ) (op : BinaryOp) {F : ℕ → Outcome Expr} (read : Result (CodeExpr × ℕ) Stop) (stop : Stop) {result : Result (CodeExpr × ℕ) Stop} → Rest F (λ n. rest_from ts n (level_of c) a j) → op_at (level_of c) (slice_get ts j) ≡ Some op → k ≡ suc j → AgreesDeep (λ n. expr_from ts n (part_of c) k) expr_of read → Makes expr_of expr_of (λ b. binary (token_index a) op a b) read (Err stop) → result ≡ Err stop → AgreesDeep F expr_of result
chain_stopped ts c a j k op {F = F} (Ok found) stop s t q r e w = subst (AgreesDeep F expr_of) (sym (w ∙ ap (λ z. Err z) e)) (record { depth = 0; agrees = λ n h. tt })
chain_stopped ts c a j k op (Err other) stop s t q r e w = fails_as expr_of expr_of other (w ∙ e) (chain_broken ts c a j k op s t q) r

-- ---- one operator at most

pub joined : (ts : List Kind) (l m k : Level) (i : ℕ) (op : BinaryOp) {a : Expr} {j : ℕ} (from : ℕ) (read result : Result (CodeExpr × ℕ) Stop) → Eventually (λ n. expr_from ts n m i) (good a j) → Some op ≡ op_at l (slice_get ts j) → from ≡ suc j → AgreesDeep (λ n. expr_from ts n k from) expr_of read →
    Makes expr_of expr_of (λ b. binary (token_index a) op a b) read result → AgreesDeep (λ n. after (expr_from ts n m i) (λ a j. implied (op_at l (slice_get ts j)) a j (expr_from ts n k (suc j)))) expr_of result
joined ts l m k i op {a = a} {j = j} from read result p o q r e = after_read _ expr_of p (agrees_as (λ n. same (op_at l (slice_get ts j)) (expr_from ts n k (suc j)) (sym o))
    (agrees_made (λ n. expr_from ts n k (suc j)) expr_of expr_of (λ b. binary (token_index a) op a b) read result (subst (λ z. AgreesDeep (λ n. expr_from ts n k z) expr_of read) q r) e))
  where
    same : (o : Option BinaryOp) (r : Outcome Expr) → o ≡ Some op → implied o a j r ≡ after r (λ b k. good (binary (token_index a) op a b) k)
    same o r e = rw e refl

pub alone : (ts : List Kind) (l m k : Level) (i : ℕ) {a : CodeExpr} {j : ℕ} → AgreesDeep (λ n. expr_from ts n m i) expr_of (Ok (a, j)) → None ≡ op_at l (slice_get ts j) → AgreesDeep (λ n. after (expr_from ts n m i) (λ a j. implied (op_at l (slice_get ts j)) a j (expr_from ts n k (suc j)))) expr_of (Ok (a, j))
alone ts l m k i {a = a} {j = j} p o = after_read _ expr_of (eventual_read expr_of p) (record { depth = 0; agrees = λ n h. same (op_at l (slice_get ts j)) (expr_from ts n k (suc j)) (sym o) })
  where
    same : (o : Option BinaryOp) (r : Outcome Expr) → o ≡ None → implied o (expr_of a) j r ≡ good (expr_of a) j
    same o r e = rw e refl

-- ---- choices

-- a choice, with both its sides
abbrev chosen : Expr → Sides → ℕ → Outcome Expr
chosen c p k = good (pick (token_index c) c p.first p.second) k

-- what follows the condition of a choice is both its sides
picked_same : (ts : List Kind) (e : ℕ → Outcome Expr) (c : Expr) (r : Outcome Expr) → after r (picked ts e c) ≡ after (after (then_mark ts (codes ":") r) (λ a j. after (then_mark ts (codes ")") (e j)) (λ b k. good (record { first = a; second = b }) k))) (chosen c)
unfolding after marked
picked_same ts e c (bad i) = refl
picked_same ts e c spent = refl
picked_same ts e c (good a j) = by (is_mark (codes ":") (slice_get ts j))
  where
    closes : (b : Expr) (k : ℕ) (t : Bool) → (if t then good (pick (token_index c) c a b) (suc k) else bad k) ≡ after (after (if t then good b (suc k) else bad k) (λ b l. good (record { first = a; second = b }) l)) (chosen c)
    closes b k true = refl
    closes b k false = refl

    second : (r : Outcome Expr) → after r (λ b k. marked ts (codes ")") k (good (pick (token_index c) c a b) (suc k))) ≡ after (after (then_mark ts (codes ")") r) (λ b k. good (record { first = a; second = b }) k)) (chosen c)
    second (good b k) = closes b k (is_mark (codes ")") (slice_get ts k))
    second (bad i) = refl
    second spent = refl

    by : (t : Bool) → (if t then after (e (suc j)) (λ b k. marked ts (codes ")") k (good (pick (token_index c) c a b) (suc k))) else bad j) ≡
        after (after (if t then good a (suc j) else bad j) (λ a l. after (then_mark ts (codes ")") (e l)) (λ b k. good (record { first = a; second = b }) k))) (chosen c)
    by false = refl
    by true = second (e (suc j))

pub picked_agrees : (ts : List Kind) (c : Expr) (i : ℕ) (read : Result ((CodeExpr × CodeExpr) × ℕ) Stop) (result : Result (CodeExpr × ℕ) Stop) → AgreesDeep (λ n. sides_from ts (expr_from ts n of_expr) i) sides_of read → Makes sides_of expr_of (λ p. pick (token_index c) c p.first p.second) read result → AgreesDeep (λ n. after (expr_from ts n of_expr i) (picked ts (expr_from ts n of_expr) c)) expr_of result
picked_agrees ts c i read result p e = agrees_as (λ n. picked_same ts (expr_from ts n of_expr) c (expr_from ts n of_expr i)) (agrees_made (λ n. sides_from ts (expr_from ts n of_expr) i) sides_of expr_of (λ p. pick (token_index c) c p.first p.second) read result p e)

-- both sides
pub sides_agree : (ts : List Kind) (i : ℕ) {a : CodeExpr} {j : ℕ} (read : Result (CodeExpr × ℕ) Stop) (result : Result ((CodeExpr × CodeExpr) × ℕ) Stop) → AgreesDeep (λ n. then_mark ts (codes ":") (expr_from ts n of_expr i)) expr_of (Ok (a, j)) → AgreesDeep (λ n. then_mark ts (codes ")") (expr_from ts n of_expr j)) expr_of read → result ≡ with_first a read → AgreesDeep (λ n. sides_from ts (expr_from ts n of_expr) i) sides_of result
sides_agree ts i read result p q e = agrees_with_first expr_of (λ n j. then_mark ts (codes ")") (expr_from ts n of_expr j)) expr_of (λ x y. record { first = x; second = y }) read result p q e

-- what stands in brackets
pub choice : (ts : List Kind) (i : ℕ) {a : CodeExpr} {j : ℕ} (from : ℕ) (result : Result (CodeExpr × ℕ) Stop) → AgreesDeep (λ n. expr_from ts n of_expr i) expr_of (Ok (a, j)) → is_mark (codes "?") (slice_get ts j) ≡ true → from ≡ suc j →
    AgreesDeep (λ n. after (expr_from ts n of_expr from) (picked ts (expr_from ts n of_expr) (expr_of a))) expr_of result → AgreesDeep (λ n. after (expr_from ts n of_expr i) (bracketed ts (expr_from ts n of_expr))) expr_of result
choice ts i {a = a} from result p t q r = after_read _ expr_of (eventual_read expr_of p) (agrees_as (λ n. rw t refl) (subst (λ z. AgreesDeep (λ n. after (expr_from ts n of_expr z) (picked ts (expr_from ts n of_expr) (expr_of a))) expr_of result) q r))

pub closed : (ts : List Kind) (i : ℕ) {a : CodeExpr} {j : ℕ} (result : Result (CodeExpr × ℕ) Stop) → AgreesDeep (λ n. expr_from ts n of_expr i) expr_of (Ok (a, j)) → is_mark (codes "?") (slice_get ts j) ≡ false → result ≡ with_mark ts (codes ")") (Ok (a, j)) → AgreesDeep (λ n. after (expr_from ts n of_expr i) (bracketed ts (expr_from ts n of_expr))) expr_of result
unfolding after
closed ts i {a = a} {j = j} result p t e = after_read _ expr_of (eventual_read expr_of p) (agrees_as (λ n. rw t refl) (agrees_marked ts (codes ")") (λ n. good (expr_of a) j) expr_of (Ok (a, j)) result (record { depth = 0; agrees = λ n h. refl }) e))

-- ---- operators before their part

pub flipped : (ts : List Kind) (i at from : ℕ) (read result : Result (CodeExpr × ℕ) Stop) → at ≡ i → is_mark (codes "~") (slice_get ts i) ≡ true → from ≡ suc i → AgreesDeep (λ n. expr_from ts n of_unary from) expr_of read → Makes expr_of expr_of (λ a. unary at flip a) read result → AgreesDeep (λ n. expr_from ts n of_unary i) expr_of result
flipped ts i at from read result s t q p e = agrees_deeper (agrees_as (λ n. rw t refl)
    (agrees_made (λ n. expr_from ts n of_unary (suc i)) expr_of expr_of (λ a. unary i flip a) read result (subst (λ z. AgreesDeep (λ n. expr_from ts n of_unary z) expr_of read) q p) (subst (λ z. Makes expr_of expr_of (λ a. unary z flip a) read result) s e)))

pub negated : (ts : List Kind) (i at from : ℕ) (read result : Result (CodeExpr × ℕ) Stop) → at ≡ i → is_mark (codes "~") (slice_get ts i) ≡ false → is_keyword (codes "not") (slice_get ts i) ≡ true → from ≡ suc i → AgreesDeep (λ n. expr_from ts n of_unary from) expr_of read → Makes expr_of expr_of (λ a. unary at not_ a) read result → AgreesDeep (λ n. expr_from ts n of_unary i) expr_of result
negated ts i at from read result s o t q p e = agrees_deeper (agrees_as (λ n. rw (o, t) refl)
    (agrees_made (λ n. expr_from ts n of_unary (suc i)) expr_of expr_of (λ a. unary i not_ a) read result (subst (λ z. AgreesDeep (λ n. expr_from ts n of_unary z) expr_of read) q p) (subst (λ z. Makes expr_of expr_of (λ a. unary z not_ a) read result) s e)))

-- ---- calls

pub called : (ts : List Kind) (i at : ℕ) (x : Name) (args read : Result (Vec CodeExpr Global × ℕ) Stop) (result : Result (CodeExpr × ℕ) Stop) → at ≡ i → name_at i (slice_get ts i) ≡ Some x → is_mark (codes "(") (slice_get ts (i + 1)) ≡ true → AgreesDeep (λ n. exprs_from ts n (i + 2)) (λ v. exprs_of (map expr_of v.items)) args → read ≡ with_mark ts (codes ")") args →
    Makes (λ v. exprs_of (map expr_of v.items)) expr_of (λ xs. call at x xs) read result → AgreesDeep (λ n. named ts i (name_or_call ts (exprs_from ts n) i)) expr_of result
unfolding named
called ts i at x args read result s w t p q e = agrees_as (λ n. rw (w, t) (then_same ts (codes ")") (exprs_from ts n (i + 2)) (λ xs j. good (call i x xs) j)))
    (agrees_made (λ n. then_mark ts (codes ")") (exprs_from ts n (i + 2))) (λ v. exprs_of (map expr_of v.items)) expr_of (λ xs. call i x xs) read result
    (agrees_marked ts (codes ")") (λ n. exprs_from ts n (i + 2)) (λ v. exprs_of (map expr_of v.items)) args read p q)
    (subst (λ z. Makes (λ v. exprs_of (map expr_of v.items)) expr_of (λ xs. call z x xs) read result) s e))

-- ---- slices

pub slices_begin : (ts : List Kind) (i : ℕ) {a : Expr} {j : ℕ} → Eventually (λ n. expr_from ts n of_prim i) (good a j) → Rest (λ n. expr_from ts n of_post i) (λ n. rest_from ts n of_post a j)
unfolding after
slices_begin ts i {a = a} {j = j} p = record { carries = λ r g. deeper (by_two p g (λ n e f. ap (λ z. after z (rest_from ts n of_post)) e ∙ f)) }

pub slices_fail : (ts : List Kind) (i : ℕ) (k : ℕ) → Eventually (λ n. expr_from ts n of_prim i) (bad k) → Eventually (λ n. expr_from ts n of_post i) (bad k)
unfolding after
slices_fail ts i k p = deeper (by_one p (λ n e. ap (λ z. after z (rest_from ts n of_post)) e))

opens_slice : (ts : List Kind) (n : ℕ) (a : Expr) (j : ℕ) → is_mark (codes "[") (slice_get ts j) ≡ true → rest_from ts (suc n) of_post a j ≡ sliced ts j (λ high low. rest_from ts n of_post (slice (token_index a) a high low) (j + 5))
opens_slice ts n a j e = rw e refl

no_slice : (ts : List Kind) (n : ℕ) (a : Expr) (j : ℕ) → is_mark (codes "[") (slice_get ts j) ≡ false → rest_from ts (suc n) of_post a j ≡ good a j
no_slice ts n a j e = rw e (by (slice_get ts j))
  where
    by : (o : Option Kind) → by_op (op_at of_post o) (good a j) (λ op. after (expr_from ts n of_prim (suc j)) (λ b k. rest_from ts n of_post (binary (token_index a) op a b) k)) ≡ good a j
    by None = refl
    by (Some k) = refl

pub slices_more : (ts : List Kind) (a : Expr) (j high low : ℕ) {F : ℕ → Outcome Expr} {both : Expr} → Rest F (λ n. rest_from ts n of_post a j) → is_mark (codes "[") (slice_get ts j) ≡ true → ((f : ℕ → ℕ → Outcome Expr) → sliced ts j f ≡ f high low) → both ≡ slice (token_index a) a high low → Rest F (λ n. rest_from ts n of_post both (j + 5))
slices_more ts a j high low s t p e = record { carries = λ r g. s.carries r (deeper (by_one g (λ n h. opens_slice ts n a j t ∙ p _ ∙ ap (λ z. rest_from ts n of_post z (j + 5)) (sym e) ∙ h))) }

pub slices_broken : (ts : List Kind) (a : Expr) (j i : ℕ) {F : ℕ → Outcome Expr} → Rest F (λ n. rest_from ts n of_post a j) → is_mark (codes "[") (slice_get ts j) ≡ true → ((f : ℕ → ℕ → Outcome Expr) → sliced ts j f ≡ bad i) → Eventually F (bad i)
slices_broken ts a j i s t p = s.carries (bad i) (deeper (flat (λ n. opens_slice ts n a j t ∙ p _)))

pub slices_end : (ts : List Kind) (a : Expr) (j : ℕ) {F : ℕ → Outcome Expr} → Rest F (λ n. rest_from ts n of_post a j) → is_mark (codes "[") (slice_get ts j) ≡ false → Eventually F (good a j)
slices_end ts a j s t = s.carries (good a j) (deeper (flat (λ n. no_slice ts n a j t)))

pub slices_stopped : (ts : List Kind) (a : Expr) (j : ℕ) (s : Stop) {F : ℕ → Outcome Expr} {result : Result (CodeExpr × ℕ) Stop} → Rest F (λ n. rest_from ts n of_post a j) → is_mark (codes "[") (slice_get ts j) ≡ true → RangeAt ts j (Err s) → result ≡ Err s → AgreesDeep F expr_of result
slices_stopped ts a j s {F = F} r t p e = subst (AgreesDeep F expr_of) (sym e) (by s p)
  where
    by : (s : Stop) → RangeAt ts j (Err s) → AgreesDeep {A = CodeExpr} F expr_of (Err s)
    by (Unexpected i) p = let g = slices_broken ts a j i r t p in record { depth = g.depth; agrees = g.equal }
    by NoMemory p = record { depth = 0; agrees = λ n h. tt }

-- ---- leaves

alike : (x y : Bool) → (x ≡ true → y ≡ true) → (y ≡ true → x ≡ true) → x ≡ y
alike true true f g = refl
alike true false f g = sym (f refl)
alike false true f g = g refl
alike false false f g = refl

eqb-comm : (a b : ℕ) → (a == b) ≡ (b == a)
eqb-comm a b = alike (a == b) (b == a) (λ h. eq-eqb b a (sym (eqb-true a b h))) (λ h. eq-eqb a b (sym (eqb-true b a h)))

same_sym : (x y : List ℕ) → same_name x y ≡ same_name y x
same_sym [] [] = refl
same_sym [] (b ∷ y) = refl
same_sym (a ∷ x) [] = refl
same_sym (a ∷ x) (b ∷ y) = rw (eqb-comm a b, same_sym x y) refl

-- neither an open bracket nor a name
pub leaf_only : (ts : List Kind) (e : ℕ → Outcome Expr) (es : ℕ → Outcome Exprs) (i : ℕ) (o : Option Kind) → slice_get ts i ≡ o → is_mark (codes "(") o ≡ false → is_name_token o ≡ false → prim_of ts e es i o ≡ leaf_from ts i
unfolding after path_from reserved
leaf_only ts e es i None q h w = rw q refl
leaf_only ts e es i (Some (a_name x)) q h w = absurd cc
leaf_only ts e es i (Some (keyword x)) q h w = rw (q, same_sym x (codes "true"), same_sym x (codes "false")) refl
leaf_only ts e es i (Some (plain n)) q h w = rw q refl
leaf_only ts e es i (Some (literal v n)) q h w = rw q refl
leaf_only ts e es i (Some (mark m)) q h w = rw (q, same_sym m (codes "("), h) refl
leaf_only ts e es i (Some finish) q h w = rw q refl

-- ---- lists of trees

-- a list that is read, as the trees have it
abbrev pub listed : {A B : Type 0} → (A → B) → Outcome A → Outcome B
listed f (good x j) = good (f x) j
listed f (bad i) = bad i
listed f spent = spent

one_expr : (a : Expr) (r : Outcome (List Expr)) (s : Outcome Exprs) → s ≡ listed exprs_of r → after s (λ es k. good (expr a es) k) ≡ listed exprs_of (after r (λ xs k. good (a ∷ xs) k))
unfolding after
one_expr a (good xs k) s e = rw e refl
one_expr a (bad i) s e = rw e refl
one_expr a spent s e = rw e refl

same_exprs : (ts : List Kind) (n i : ℕ) → exprs_from ts n i ≡ listed exprs_of (commas_from ts (λ m. expr_from ts m of_expr) n i)
unfolding after
same_exprs ts zero i = refl
same_exprs ts (suc n) i = by (λ j. same_exprs ts n (suc j)) (expr_from ts n of_expr i)
  where
    more : ((j : ℕ) → exprs_from ts n (suc j) ≡ listed exprs_of (commas_from ts (λ m. expr_from ts m of_expr) n (suc j))) → (a : Expr) (j : ℕ) (b : Bool) → (if b then after (exprs_from ts n (suc j)) (λ es k. good (expr a es) k) else good (expr a no_exprs) j) ≡ listed exprs_of (if b then after (commas_from ts (λ m. expr_from ts m of_expr) n (suc j)) (λ xs k. good (a ∷ xs) k) else good (a ∷ []) j)
    more ih a j true = one_expr a _ _ (ih j)
    more ih a j false = refl

    by : ((j : ℕ) → exprs_from ts n (suc j) ≡ listed exprs_of (commas_from ts (λ m. expr_from ts m of_expr) n (suc j))) → (r : Outcome Expr) → after r (λ a j. if is_mark (codes ",") (slice_get ts j) then after (exprs_from ts n (suc j)) (λ es k. good (expr a es) k) else good (expr a no_exprs) j) ≡
        listed exprs_of (after r (λ a j. if is_mark (codes ",") (slice_get ts j) then after (commas_from ts (λ m. expr_from ts m of_expr) n (suc j)) (λ xs k. good (a ∷ xs) k) else good (a ∷ []) j))
    by ih (good a j) = more ih a j (is_mark (codes ",") (slice_get ts j))
    by ih (bad k) = refl
    by ih spent = refl

pub as_exprs : (ts : List Kind) (i : ℕ) {result : Result (Vec CodeExpr Global × ℕ) Stop} → AgreesDeep (λ n. commas_from ts (λ m. expr_from ts m of_expr) n i) (λ v. map expr_of v.items) result → AgreesDeep (λ n. exprs_from ts n i) (λ v. exprs_of (map expr_of v.items)) result
as_exprs ts i {result = result} p = record { depth = p.depth; agrees = λ n h. over n result (p.agrees n h) }
  where
    over : (n : ℕ) (s : Result (Vec CodeExpr Global × ℕ) Stop) → Agrees (commas_from ts (λ m. expr_from ts m of_expr) n i) (λ v. map expr_of v.items) s → Agrees (exprs_from ts n i) (λ v. exprs_of (map expr_of v.items)) s
    over n (Ok x) e = same_exprs ts n i ∙ ap (listed exprs_of) e
    over n (Err (Unexpected k)) e = same_exprs ts n i ∙ ap (listed exprs_of) e
    over n (Err NoMemory) e = tt
