-- One step of the loops over arguments, expressions and statements, and of the sums of a statement.
use Rattle.std.specs.Prelude.{◌≡◌, ℕ, suc, ◌+◌, ◌*◌, List, [], ◌∷◌, ◌++◌, length, refl}
use Rattle.std.proofs.Common.{sym, ◌∙◌, ap, arith}
use Rattle.std.specs.Prelude.{◌<◌, ◌≤◌, map, take, get_or, filter_map, Option}
use Rattle.std.proofs.lemmas.List.{map_more, map-append, length-take-le, length-map, take_all}
use Rattle.std.proofs.Common.{length-append}
use Rattle.std.proofs.lemmas.Grind.{take_at_read}
use Rattle.std.proofs.lemmas.List.Elements.{filter_map-append}
use Rattle.cocoon_num.specs.Tree.{Expr, Stmt, FunctionDecl}
use Rattle.cocoon_num.specs.Packets.{total}
use Rattle.cocoon_syntax.specs.TreeOf.{expr_of, exprs_of, stmt_of, block_of}
use Rattle.cocoon_syntax.specs.declared.expr.Expr.{Expr as CodeExpr}
use Rattle.cocoon_syntax.specs.declared.stmt.Stmt.{Stmt as CodeStmt}
use Rattle.cocoon_types.specs.Limits.{reported, expr_nodes, exprs_nodes, stmt_nodes, block_nodes}
use Rattle.cocoon_resolve.specs.Forms.{weight, weights, each_times, CallForm, own_nodes, times, form_weight}
use Rattle.cocoon_resolve.proofs.Saturation.{sum_left, sum_right, product_left}

-- ---- lists

-- one more item
pub taken_more : {X Y : Type 0} (f : X → Y) (xs : List X) (i : ℕ) (x : X) → i < length xs → x ≡ get_or xs i x → map f (take (i + 1) xs) ≡ map f (take i xs) ++ (f x ∷ [])
taken_more f xs i x h e = map_more f xs i x h ∙ ap (λ y. map f (take i xs) ++ (f y ∷ [])) (sym e)

-- one more item of which h gives something
pub chosen_more : {X Y Z : Type 0} (h : Y → Option Z) (f : X → Y) (xs : List X) (i : ℕ) (x : X) → i < length xs → x ≡ get_or xs i x
    → filter_map h (map f (take (i + 1) xs)) ≡ filter_map h (map f (take i xs)) ++ filter_map h (f x ∷ [])
chosen_more h f xs i x lt e = ap (filter_map h) (taken_more f xs i x lt e) ∙ filter_map-append h (map f (take i xs)) (f x ∷ [])

-- ---- sums

-- a sum with one more number
total_more : (xs : List ℕ) (x : ℕ) → total (xs ++ (x ∷ [])) ≡ total xs + x
total_more [] x = omega arith
total_more (y ∷ xs) x = rw (total_more xs x) (omega arith)

-- weighed numbers with one more
times_more : (u : ℕ → ℕ) (xs : List ℕ) (x : ℕ) → each_times u (xs ++ (x ∷ [])) ≡ each_times u xs + x * u (length xs)
times_more u [] x = omega arith
times_more u (y ∷ xs) x = rw (times_more (λ i. u (suc i)) xs x) (omega arith)

-- ---- arguments

pub weights_more : (one : ℕ) (c : List ℕ → List ℕ → ℕ) (v : List ℕ → ℕ) (xs : List Expr) (e : Expr)
    → weights one c v (exprs_of (xs ++ (e ∷ []))) ≡ weights one c v (exprs_of xs) ++ (weight one c v e ∷ [])
weights_more one c v [] e = refl
weights_more one c v (x ∷ xs) e = ap (λ ws. weight one c v x ∷ ws) (weights_more one c v xs e)

pub weights_length : (one : ℕ) (c : List ℕ → List ℕ → ℕ) (v : List ℕ → ℕ) (xs : List Expr) → length (weights one c v (exprs_of xs)) ≡ length xs
weights_length one c v [] = refl
weights_length one c v (x ∷ xs) = ap suc (weights_length one c v xs)

pub plus_both : (a b : ℕ) → reported (reported a + reported b) ≡ reported (a + b)
plus_both a b = sum_left a (reported b) ∙ sum_right a b

-- one more argument
pub argument_more : (own one i t : ℕ) (u : ℕ → ℕ) (c : List ℕ → List ℕ → ℕ) (v : List ℕ → ℕ) (xs : List Expr) (e : Expr) → length xs ≡ i → t ≡ u i
    → reported (reported (own + each_times u (weights one c v (exprs_of xs))) + reported (reported (weight one c v e) * t))
    ≡ reported (own + each_times u (weights one c v (exprs_of (xs ++ (e ∷ [])))))
argument_more own one i t u c v xs e h g =
    let ws : List ℕ = weights one c v (exprs_of xs) in
    let w : ℕ = weight one c v e in
    let long : length ws ≡ i = weights_length one c v xs ∙ h in
    let times : each_times u (ws ++ (w ∷ [])) ≡ each_times u ws + w * t = times_more u ws w ∙ ap (λ n. each_times u ws + w * u n) long ∙ ap (λ n. each_times u ws + w * n) (sym g) in
    ap (λ n. reported (reported (own + each_times u ws) + n)) (product_left w t)
    ∙ plus_both (own + each_times u ws) (w * t)
    ∙ ap reported (regroup own (each_times u ws) (w * t) ∙ ap (λ n. own + n) (sym times) ∙ ap (λ xs. own + each_times u xs) (sym (weights_more one c v xs e)))
  where
    regroup : (a b c : ℕ) → (a + b) + c ≡ a + (b + c)
    regroup a b c = omega arith

-- ---- statements

expr_last : (fs : List FunctionDecl) (xs : List Expr) (e : Expr) → exprs_nodes fs (exprs_of (xs ++ (e ∷ []))) ≡ exprs_nodes fs (exprs_of xs) + expr_nodes fs e
expr_last fs [] e = omega arith
expr_last fs (x ∷ xs) e = rw (expr_last fs xs e) (omega arith)

stmt_last : (fs : List FunctionDecl) (xs : List Stmt) (s : Stmt) → block_nodes fs (block_of (xs ++ (s ∷ []))) ≡ block_nodes fs (block_of xs) + stmt_nodes fs s
stmt_last fs [] s = omega arith
stmt_last fs (x ∷ xs) s = rw (stmt_last fs xs s) (omega arith)

pub expr_more : (fs : List FunctionDecl) (xs : List Expr) (e : Expr)
    → reported (reported (exprs_nodes fs (exprs_of xs)) + reported (expr_nodes fs e)) ≡ reported (exprs_nodes fs (exprs_of (xs ++ (e ∷ []))))
expr_more fs xs e = plus_both (exprs_nodes fs (exprs_of xs)) (expr_nodes fs e) ∙ ap reported (sym (expr_last fs xs e))

pub stmt_more : (fs : List FunctionDecl) (xs : List Stmt) (s : Stmt)
    → reported (reported (block_nodes fs (block_of xs)) + reported (stmt_nodes fs s)) ≡ reported (block_nodes fs (block_of (xs ++ (s ∷ []))))
stmt_more fs xs s = plus_both (block_nodes fs (block_of xs)) (stmt_nodes fs s) ∙ ap reported (sym (stmt_last fs xs s))

pub expr_step : (fs : List FunctionDecl) (xs : List CodeExpr) (i : ℕ) (x : CodeExpr) (a b r : ℕ) → i < length xs → x ≡ get_or xs i x
    → a ≡ reported (exprs_nodes fs (exprs_of (map expr_of (take i xs)))) → b ≡ reported (expr_nodes fs (expr_of x)) → r ≡ reported (a + b)
    → r ≡ reported (exprs_nodes fs (exprs_of (map expr_of (take (i + 1) xs))))
expr_step fs xs i x a b r lt e p q t =
    t ∙ ap (λ n. reported (n + b)) p ∙ ap (λ n. reported (reported (exprs_nodes fs (exprs_of (map expr_of (take i xs)))) + n)) q
    ∙ expr_more fs (map expr_of (take i xs)) (expr_of x) ∙ ap (λ ys. reported (exprs_nodes fs (exprs_of ys))) (sym (taken_more expr_of xs i x lt e))

pub stmt_step : (fs : List FunctionDecl) (xs : List CodeStmt) (i : ℕ) (x : CodeStmt) (a b r : ℕ) → i < length xs → x ≡ get_or xs i x
    → a ≡ reported (block_nodes fs (block_of (map stmt_of (take i xs)))) → b ≡ reported (stmt_nodes fs (stmt_of x)) → r ≡ reported (a + b)
    → r ≡ reported (block_nodes fs (block_of (map stmt_of (take (i + 1) xs))))
stmt_step fs xs i x a b r lt e p q t =
    t ∙ ap (λ n. reported (n + b)) p ∙ ap (λ n. reported (reported (block_nodes fs (block_of (map stmt_of (take i xs)))) + n)) q
    ∙ stmt_more fs (map stmt_of (take i xs)) (stmt_of x) ∙ ap (λ ys. reported (block_nodes fs (block_of ys))) (sym (taken_more stmt_of xs i x lt e))

pub argument_step : (own one : ℕ) (u : ℕ → ℕ) (c : List ℕ → List ℕ → ℕ) (v : List ℕ → ℕ) (xs : List CodeExpr) (i : ℕ) (x : CodeExpr) (a w t m r : ℕ) → i < length xs → x ≡ get_or xs i x
    → a ≡ reported (own + each_times u (weights one c v (exprs_of (map expr_of (take i xs))))) → w ≡ reported (weight one c v (expr_of x)) → t ≡ u i
    → m ≡ reported (w * t) → r ≡ reported (a + m) → r ≡ reported (own + each_times u (weights one c v (exprs_of (map expr_of (take (i + 1) xs)))))
argument_step own one u c v xs i x a w t m r lt e p q k g h =
    h ∙ ap (λ n. reported (a + n)) (g ∙ ap (λ n. reported (n * t)) q) ∙ ap (λ n. reported (n + reported (reported (weight one c v (expr_of x)) * t))) p
    ∙ argument_more own one i t u c v (map expr_of (take i xs)) (expr_of x) (length-map (take i xs) expr_of ∙ length-take-le i xs (lt-le lt)) k
    ∙ ap (λ ys. reported (own + each_times u (weights one c v (exprs_of ys)))) (sym (taken_more expr_of xs i x lt e))
  where
    lt-le : i < length xs → i ≤ length xs
    lt-le h = omega arith

-- the call with all its arguments
pub call_whole : (one : ℕ) (form : CallForm) (c : List ℕ → List ℕ → ℕ) (v : List ℕ → ℕ) (xs : List CodeExpr) (i n : ℕ) → length xs ≤ i
    → n ≡ reported (one * own_nodes form (length xs) + each_times (times form) (weights one c v (exprs_of (map expr_of (take i xs)))))
    → n ≡ reported (form_weight one form (weights one c v (exprs_of (map expr_of xs))))
call_whole one form c v xs i n h e =
    e ∙ ap (λ ys. reported (one * own_nodes form (length xs) + each_times (times form) (weights one c v (exprs_of (map expr_of ys))))) (take_all i xs h)
    ∙ ap (λ k. reported (one * own_nodes form k + each_times (times form) (weights one c v (exprs_of (map expr_of xs))))) (sym (weights_length one c v (map expr_of xs) ∙ length-map xs expr_of))

-- ---- counts

pub count_step : {X Y Z : Type 0} (h : Y → Option Z) (f : X → Y) (xs : List X) (i : ℕ) (x : X) (a b r : ℕ) → i < length xs → x ≡ get_or xs i x
    → a ≡ reported (length (filter_map h (map f (take i xs)))) → b ≡ length (filter_map h (f x ∷ [])) → r ≡ reported (a + b)
    → r ≡ reported (length (filter_map h (map f (take (i + 1) xs))))
count_step h f xs i x a b r lt e p q t =
    t ∙ ap (λ n. reported (n + b)) p ∙ sum_left (length (filter_map h (map f (take i xs)))) b
    ∙ ap (λ n. reported (length (filter_map h (map f (take i xs))) + n)) q
    ∙ ap reported (sym (ap length (chosen_more h f xs i x lt e) ∙ length-append (filter_map h (map f (take i xs))) (filter_map h (f x ∷ []))))

pub total_step : (xs : List ℕ) (i a r : ℕ) → i < length xs → a ≡ reported (total (take i xs)) → r ≡ reported (a + get_or xs i 0) → r ≡ reported (total (take (i + 1) xs))
total_step xs i a r lt p t =
    t ∙ ap (λ n. reported (n + get_or xs i 0)) p ∙ sum_left (total (take i xs)) (get_or xs i 0)
    ∙ ap reported (sym (ap total (take_at_read xs i 0 lt).1 ∙ total_more (take i xs) (get_or xs i 0)))

pub sum_step : {X Y : Type 0} (g : Y → ℕ) (f : X → Y) (xs : List X) (i : ℕ) (x : X) (a b r : ℕ) → i < length xs → x ≡ get_or xs i x
    → a ≡ reported (total (map g (map f (take i xs)))) → b ≡ g (f x) → r ≡ reported (a + b) → r ≡ reported (total (map g (map f (take (i + 1) xs))))
sum_step g f xs i x a b r lt e p q t =
    t ∙ ap (λ n. reported (n + b)) p ∙ sum_left (total (map g (map f (take i xs)))) b
    ∙ ap (λ n. reported (total (map g (map f (take i xs))) + n)) q
    ∙ ap reported (sym (ap total (ap (map g) (taken_more f xs i x lt e) ∙ map-append g (map f (take i xs)) (f x ∷ [])) ∙ total_more (map g (map f (take i xs))) (g (f x))))
