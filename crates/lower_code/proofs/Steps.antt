-- What is lowered after what was lowered before.
use Rattle.std.proofs.Common.{◌≡◌, ℕ, suc, ◌+◌, ◌<◌, List, [], ◌∷◌, ◌++◌, map, drop, length, get_or, Result, Ok, Err, IfOk, false, sym, ap, ◌∙◌}
use Rattle.std.proofs.lemmas.List.{append_assoc, append-nil, drop_more}
use Rattle.cocoon_num.specs.Tree.{FunctionDecl, Param}
use Rattle.cocoon_num.specs.declared.NoMemory.{NoMemory}
use Rattle.p4_ir.specs.P4Tree.{P4Expr, P4Stmt, apply_table, p_pick, p_truth}
use Rattle.lowering.specs.Lower.{Counts, Made, key_name, result_name, var_name, a_field, fields_from, past, sets, Lowered, LoweredAll, after_args, and_then, closed, plain, second_third, then_all, then_called}
use Rattle.lower_code.specs.Growth.{Counted, SoFar, applied_code, applied_counts, applied_fields, grown, keeps_result, with_expr, with_exprs, with_field, with_keys, with_parameters, with_variable}

-- ---- results and lists

pub if_ok : {A : Type 0} {P Q : A → Type 0} (r : Result A NoMemory) → IfOk r P → ((x : A) → P x → Q x) → IfOk r Q
if_ok (Ok x) h f = f x h
if_ok (Err e) h f = tt

-- the items from one on, mapped
pub mapped_from : {A B : Type 0} (f : A → B) (xs : List A) (i : ℕ) (x : A) → i < length xs → x ≡ get_or xs i x → map f (drop i xs) ≡ f x ∷ map f (drop (i + 1) xs)
mapped_from f xs i x l e = ap (map f) (drop_more xs i x l) ∙ ap (λ y. f y ∷ map f (drop (i + 1) xs)) (sym e)

-- ---- meta fields

pub keys_step : (c : Counted) (app key : ℕ) (p : Param) (ps : List Param)
    → with_keys c app key (p ∷ ps) ≡ with_keys (with_field c (key_name app key) p.width) app (suc key) ps
keys_step c app key p ps = λ i. record {
  made = sym (append_assoc c.made (a_field (key_name app key) c.next.field p.width ∷ []) (fields_from (key_name app) (suc key) (suc c.next.field) ps)) i;
  next = record { app = c.next.app; var = c.next.var; field = past (suc c.next.field) ps; site = c.next.site };
}

pub keys_end : (c : Counted) (app key : ℕ) → with_keys c app key [] ≡ c
keys_end c app key = λ i. record { made = append-nil c.made i; next = c.next }

pub parameters_step : (c : Counted) (p : Param) (ps : List Param) → with_parameters c (p ∷ ps) ≡ with_parameters (with_variable c p.width) ps
parameters_step c p ps = λ i. record {
  made = sym (append_assoc c.made (a_field (var_name c.next.var) c.next.field p.width ∷ []) (fields_from var_name (suc c.next.var) (suc c.next.field) ps)) i;
  next = record { app = c.next.app; var = past (suc c.next.var) ps; field = past (suc c.next.field) ps; site = c.next.site };
}

pub parameters_end : (c : Counted) → with_parameters c [] ≡ c
parameters_end c = λ i. record { made = append-nil c.made i; next = c.next }

-- ---- code

pub sets_step : (code : List P4Stmt) (x : P4Stmt) (xs : List P4Stmt) → code ++ (x ∷ xs) ≡ (code ++ x ∷ []) ++ xs
sets_step code x xs = sym (append_assoc code (x ∷ []) xs)

pub grown_twice : (s : SoFar) (a b : List P4Stmt) (m o : List Made) (n k : Counts)
    → grown (grown s a m n) b o k ≡ grown s (a ++ b) (m ++ o) k
grown_twice s a b m o n k = λ i. record { code = append_assoc s.code a b i; made = append_assoc s.made m o i; next = k }

pub grown_none : (s : SoFar) → grown s [] [] s.next ≡ s
grown_none s = λ i. record { code = append-nil s.code i; made = append-nil s.made i; next = s.next }

-- ---- tables

pub table_step : (s : SoFar) (es : List P4Expr) (ps : List Param) (w k : ℕ) (code : List P4Stmt) (c : Counted)
    → code ≡ (s.code ++ sets s.next.field es) ++ apply_table s.next.app ∷ []
    → c ≡ with_field (with_keys (record { made = s.made; next = s.next }) s.next.app 0 ps) (result_name s.next.app) w
    → k ≡ suc s.next.app
    → record { code = code; made = c.made; next = record { app = k; var = c.next.var; field = c.next.field; site = c.next.site } }
    ≡ grown s (applied_code es s.next) (applied_fields ps w s.next) (applied_counts ps s.next)
table_step s es ps w k code c h m e = λ i. record {
  code = (h ∙ append_assoc s.code (sets s.next.field es) (apply_table s.next.app ∷ [])) i;
  made = (ap (λ (x : Counted). x.made) m ∙ append_assoc s.made (fields_from (key_name s.next.app) 0 s.next.field ps) (a_field (result_name s.next.app) (past s.next.field ps) w ∷ [])) i;
  next = record { app = e i; var = (m i).next.var; field = (m i).next.field; site = (m i).next.site };
}

-- the table itself after its fields
pub table_put : (s z : SoFar) (es : List P4Expr) (ps : List Param) (w : ℕ) (x y : Made)
    → z ≡ grown s (applied_code es s.next) (applied_fields ps w s.next) (applied_counts ps s.next) → x ≡ y
    → record { code = z.code; made = z.made ++ x ∷ []; next = z.next }
    ≡ grown s (applied_code es s.next) (fields_from (key_name s.next.app) 0 s.next.field ps ++ (a_field (result_name s.next.app) (past s.next.field ps) w ∷ y ∷ [])) (applied_counts ps s.next)
table_put s z es ps w x y h e =
    let fields = fields_from (key_name s.next.app) 0 s.next.field ps in
    let last = a_field (result_name s.next.app) (past s.next.field ps) w ∷ [] in
    (λ i. record { code = (h i).code; made = (h i).made ++ e i ∷ []; next = (h i).next })
    ∙ (λ i. record {
      code = s.code ++ applied_code es s.next;
      made = (append_assoc s.made (fields ++ last) (y ∷ []) ∙ ap (λ (ms : List Made). s.made ++ ms) (append_assoc fields last (y ∷ []))) i;
      next = applied_counts ps s.next;
    })

-- ---- expressions

pub grown_thrice : (s : SoFar) (a b c : List P4Stmt) (m o p : List Made) (n k l : Counts)
    → grown (grown (grown s a m n) b o k) c p l ≡ grown s (a ++ (b ++ c)) (m ++ (o ++ p)) l
grown_thrice s a b c m o p n k l = grown_twice (grown s a m n) b c o p k l ∙ grown_twice s a (b ++ c) m (o ++ p) n l

pub both_step : (f : P4Expr → P4Expr → P4Expr) (s z y : SoFar) (a b e : P4Expr) (r : Lowered) (g : Counts → Lowered)
    → (z, a) ≡ with_expr s r → (y, b) ≡ with_expr z (g z.next) → e ≡ f a b → (y, e) ≡ with_expr s (and_then f r g)
both_step f s z y a b e r g h k j =
    (λ i. ((k i).0, (j ∙ ap (λ (p : SoFar × P4Expr). f a p.1) k) i))
    ∙ (λ i. (grown (h i).0 (g (h i).0.next).code (g (h i).0.next).made (g (h i).0.next).next, f (h i).1 (g (h i).0.next).expr))
    ∙ (λ i. (grown_twice s r.code (g r.next).code r.made (g r.next).made r.next (g r.next).next i, f r.expr (g r.next).expr))

pub three_step : (s z y x : SoFar) (a b c e : P4Expr) (r : Lowered) (g h : Counts → Lowered)
    → (z, a) ≡ with_expr s r → (y, b) ≡ with_expr z (g z.next) → (x, c) ≡ with_expr y (h y.next) → e ≡ p_pick a b c → (x, e) ≡ with_expr s (second_third r g h)
three_step s z y x a b c e r g h first second third j =
    (λ i. ((third i).0, (j ∙ ap (λ (p : SoFar × P4Expr). p_pick a b p.1) third) i))
    ∙ (λ i. (grown (second i).0 (h (second i).0.next).code (h (second i).0.next).made (h (second i).0.next).next, p_pick a (second i).1 (h (second i).0.next).expr))
    ∙ (λ i. let k = (g (first i).0.next).next in
    (grown (grown (first i).0 (g (first i).0.next).code (g (first i).0.next).made k) (h k).code (h k).made (h k).next, p_pick (first i).1 (g (first i).0.next).expr (h k).expr))
    ∙ (λ i. (
      grown_thrice s r.code (g r.next).code (h (g r.next).next).code r.made (g r.next).made (h (g r.next).next).made r.next (g r.next).next (h (g r.next).next).next i,
      p_pick r.expr (g r.next).expr (h (g r.next).next).expr,
    ))

pub call_step : (s z y : SoFar) (es : List P4Expr) (e : P4Expr) (r : LoweredAll) (g : List P4Expr → Counts → Lowered)
    → (z, es) ≡ with_exprs s r → (y, e) ≡ with_expr z (g es z.next) → (y, e) ≡ with_expr s (then_called r g)
call_step s z y es e r g h k =
    k ∙ (λ i. with_expr (h i).0 (g (h i).1 (h i).0.next))
    ∙ (λ i. (grown_twice s r.code (g r.exprs r.next).code r.made (g r.exprs r.next).made r.next (g r.exprs r.next).next i, (g r.exprs r.next).expr))

pub truth_step : (s : SoFar) (e : P4Expr) → e ≡ p_truth false → (s, e) ≡ with_expr s (plain s.next (p_truth false))
truth_step s e h = λ i. (sym (grown_none s) i, h i)

pub closed_step : (s z y x : SoFar) (g : FunctionDecl) (es : List P4Expr) (v e : P4Expr) (r : Counts → Lowered)
    → z ≡ grown s (sets s.next.field es) (fields_from var_name s.next.var s.next.field g.params) (after_args g s.next)
    → (y, v) ≡ with_expr z (r z.next) → (x, e) ≡ with_expr y (keeps_result g.result v y.next)
    → (x, e) ≡ with_expr s (closed g es s.next (r (after_args g s.next)))
closed_step s z y x g es v e r h k l =
    let fields = fields_from var_name s.next.var s.next.field g.params in
    let n = after_args g s.next in
    let b = r n in
    let last = keeps_result g.result b.expr b.next in
    l ∙ (λ i. with_expr (k i).0 (keeps_result g.result (k i).1 (k i).0.next))
    ∙ (λ i. with_expr (grown (h i) (r (h i).next).code (r (h i).next).made (r (h i).next).next) (keeps_result g.result (r (h i).next).expr (r (h i).next).next))
    ∙ (λ i. (grown_thrice s (sets s.next.field es) b.code last.code fields b.made last.made n b.next last.next i, last.expr))

-- ---- lists of expressions

abbrev pub prepended : List P4Expr → SoFar × List P4Expr → SoFar × List P4Expr
prepended es p = (p.0, es ++ p.1)

pub exprs_step : (s z : SoFar) (e : P4Expr) (done : List P4Expr) (r : Lowered) (g : Counts → LoweredAll) → (z, e) ≡ with_expr s r
    → prepended done (with_exprs s (then_all r g)) ≡ prepended (done ++ e ∷ []) (with_exprs z (g z.next))
exprs_step s z e done r g h =
    sym ((λ i. (grown (h i).0 (g (h i).0.next).code (g (h i).0.next).made (g (h i).0.next).next, (done ++ (h i).1 ∷ []) ++ (g (h i).0.next).exprs))
    ∙ (λ i. (grown_twice s r.code (g r.next).code r.made (g r.next).made r.next (g r.next).next i, append_assoc done (r.expr ∷ []) (g r.next).exprs i)))

pub exprs_end : (s : SoFar) (es : List P4Expr) → prepended es (with_exprs s (record { code = []; made = []; exprs = []; next = s.next })) ≡ (s, es)
exprs_end s es = λ i. (grown_none s i, append-nil es i)
