-- The reading of expressions is exact.
use Rattle.std.specs.Prelude.{◌≡◌, ℕ, zero, suc, ◌+◌, ◌≤◌, ◌&&◌, Bool, true, false, List, [], ◌∷◌, length, slice_get, Option, Some, None, if◌then◌else◌, codes, refl}
use Rattle.std.proofs.Common.{sym, ◌∙◌, ap, subst, arith}
use Rattle.cocoon_num.specs.Names.{same_name}
use Rattle.cocoon_num.specs.Values.{flip, not_, BinaryOp, add, sub, bits_and, bits_or, bits_xor, concat, equal, unequal, less, less_equal, greater, greater_equal, and_, or_, implies}
use Rattle.cocoon_num.specs.Tree.{Expr, name, field, lit, true_or_false, call, unary, binary, slice, pick, no_exprs, expr, token_index}
use Rattle.cocoon_num.specs.Tokens.{Kind, a_name, keyword, plain, literal, mark, finish, same_kind}
use Rattle.cocoon_num.specs.Reads.{Is, Mark, Reserved, FieldAt, Level, of_expr, of_or, of_and, of_cmp, of_cat, of_bit, of_sum, of_unary, of_post, of_prim, part, IsChain, IsComparison, operator, ExprAt, RestAt, ExprsAt, no_implication, an_implication, a_chain, no_comparison, a_comparison, a_flip, a_not, no_unary, no_part, a_part, a_slice, a_variable, a_call, a_field, a_literal, a_true, a_false, in_brackets, a_pick, last_expr, more_exprs}
use Rattle.parsing.specs.PlainParser.{Outcome, good, bad, after, is_mark, is_finish, ops_of, op_in, op_at, path_from, implied, bracketed, prim_of, by_op, sliced, is_post, part_from, expr_from, rest_from, exprs_from}
use Rattle.parsing.proofs.Exact.{Justifies, Ends, Exact, mark_is, text_is, as_well, done, stopped, by_token, takes, either_mark, either_reserved_word, mark_then, reserved_word_then, name_then, number_then, phrase_then, no_depth, some_name, some_number}

-- ---- operators

abbrev pub EachOp : (BinaryOp → Type 0) → List BinaryOp → Type 0
EachOp P [] = Unit {0}
EachOp P (op ∷ ops) = P op × EachOp P ops

no_finish : (op : BinaryOp) → is_finish (Some (operator op)) ≡ false
no_finish add = refl
no_finish sub = refl
no_finish bits_and = refl
no_finish bits_or = refl
no_finish bits_xor = refl
no_finish concat = refl
no_finish equal = refl
no_finish unequal = refl
no_finish less = refl
no_finish less_equal = refl
no_finish greater = refl
no_finish greater_equal = refl
no_finish and_ = refl
no_finish or_ = refl
no_finish implies = refl

same_kind-is : (a b : Kind) → same_kind a b ≡ true → b ≡ a
same_kind-is (mark x) (mark y) h = ap mark (sym (text_is x y h))
same_kind-is (keyword x) (keyword y) h = ap keyword (sym (text_is x y h))
same_kind-is (a_name x) (a_name y) h = ap a_name (sym (text_is x y h))
same_kind-is _ _ h = absurd cc

op_in-is : (P : BinaryOp → Type 0) (ops : List BinaryOp) (k : Kind) (op : BinaryOp) → EachOp P ops → op_in ops k ≡ Some op → P op × (k ≡ operator op)
op_in-is P [] k op h e = absurd cc
op_in-is P (o ∷ ops) k op h e = by (same_kind (operator o) k) refl e (λ f. op_in-is P ops k op h.1 f)
  where
    by : (b : Bool) → same_kind (operator o) k ≡ b → (if b then Some o else op_in ops k) ≡ Some op → (op_in ops k ≡ Some op → P op × (k ≡ operator op)) → P op × (k ≡ operator op)
    by true d e next = let f : o ≡ op = cc in (subst P f h.0, same_kind-is (operator o) k d ∙ ap operator f)
    by false d e next = next e

op_at-is : (P : BinaryOp → Type 0) (l : Level) (k : Option Kind) (op : BinaryOp) → EachOp P (ops_of l) → op_at l k ≡ Some op → P op × (k ≡ Some (operator op))
op_at-is P l None op h e = absurd cc
op_at-is P l (Some k) op h e = let d = op_in-is P (ops_of l) k op h e in (d.0, ap Some d.1)

chain_ops : (l m : Level) → part l ≡ Some m → EachOp (IsChain l) (ops_of l)
chain_ops of_expr m e = absurd cc
chain_ops of_or m e = (tt, tt)
chain_ops of_and m e = (tt, tt)
chain_ops of_cmp m e = absurd cc
chain_ops of_cat m e = (tt, tt)
chain_ops of_bit m e = (tt, (tt, (tt, tt)))
chain_ops of_sum m e = (tt, (tt, tt))
chain_ops of_unary m e = absurd cc
chain_ops of_post m e = tt
chain_ops of_prim m e = absurd cc

comparison_ops : EachOp IsComparison (ops_of of_cmp)
comparison_ops = (tt, (tt, (tt, (tt, (tt, (tt, tt))))))

abbrev Implies : BinaryOp → Type 0
Implies op = op ≡ implies

-- ---- the shortest expression

abbrev pub true_token : List Kind
true_token = keyword (codes "true") ∷ []

true_is : (us : List Kind) (l : Level) (p : ℕ) → Reserved us p (codes "true") → ExprAt us l p (true_or_false p true) (suc p)
true_is us of_expr p t = no_implication (a_chain refl (a_chain refl (no_comparison (a_chain refl (a_chain refl (a_chain refl (no_unary (a_chain refl (a_true t) no_part)) no_part) no_part) no_part)) no_part) no_part)
true_is us of_or p t = a_chain refl (a_chain refl (no_comparison (a_chain refl (a_chain refl (a_chain refl (no_unary (a_chain refl (a_true t) no_part)) no_part) no_part) no_part)) no_part) no_part
true_is us of_and p t = a_chain refl (no_comparison (a_chain refl (a_chain refl (a_chain refl (no_unary (a_chain refl (a_true t) no_part)) no_part) no_part) no_part)) no_part
true_is us of_cmp p t = no_comparison (a_chain refl (a_chain refl (a_chain refl (no_unary (a_chain refl (a_true t) no_part)) no_part) no_part) no_part)
true_is us of_cat p t = a_chain refl (a_chain refl (a_chain refl (no_unary (a_chain refl (a_true t) no_part)) no_part) no_part) no_part
true_is us of_bit p t = a_chain refl (a_chain refl (no_unary (a_chain refl (a_true t) no_part)) no_part) no_part
true_is us of_sum p t = a_chain refl (no_unary (a_chain refl (a_true t) no_part)) no_part
true_is us of_unary p t = no_unary (a_chain refl (a_true t) no_part)
true_is us of_post p t = a_chain refl (a_true t) no_part
true_is us of_prim p t = a_true t

expr_ends : (l : Level) (p : ℕ) → Ends (λ us. ExprAt us l p) p true_token
expr_ends l p us a = (true_or_false p true, subst (λ z. ExprAt us l p (true_or_false p true) z) (let e : suc p ≡ p + 1 = omega arith in e) (true_is us l p a.0))

exprs_ends : (p : ℕ) → Ends (λ us. ExprsAt us p) p true_token
exprs_ends p us a = let d = expr_ends of_expr p us a in (expr d.0 no_exprs, last_expr d.1)

rest_ends : (l : Level) (e : Expr) (p : ℕ) → Ends (λ us. RestAt us l e p) p []
rest_ends l e p = (done {P = λ us. RestAt us l e p} e p p refl (λ us. no_part)).ends

-- ---- steps

implied_exact : {P : List Kind → Expr → ℕ → Type 0} (l : Level) (Q : BinaryOp → Type 0) → EachOp Q (ops_of l) → (a : Expr) (j : ℕ) (R : List Kind → Outcome Expr) {v : List Kind} → ((us : List Kind) → P us a j) → ((op : BinaryOp) → Q op → Exact (λ us y k. Is us j (operator op) → P us y k) (λ us. after (R us) (λ b k. good (binary (token_index a) op a b) k)) (suc j) v) → Exact P (λ us. implied (op_at l (slice_get us j)) a j (R us)) j []
implied_exact {P} l Q each a j R f g = by_token (λ us k. implied (op_at l k) a j (R us)) j (done {P = P} a j j refl f).ends (λ k ts h t. over k (op_at l k) refl ts h t)
  where
    over : (k : Option Kind) (o : Option BinaryOp) → op_at l k ≡ o → (ts : List Kind) → j ≤ length ts → slice_get ts j ≡ k → Justifies P (λ us. implied o a j (R us)) ts j (implied o a j (R ts))
    over k None e ts h t = (done {P = P} a j j refl f).justified ts h
    over k (Some op) e ts h t = let d = op_at-is Q l k op each e in takes (suc j) (operator op) refl (no_finish op) (g op d.0) ts (t ∙ d.1)

-- a field of the packet
abbrev pub a_path : List Kind
a_path = keyword (codes "pkt") ∷ mark (codes ".") ∷ some_name ∷ mark (codes ".") ∷ some_name ∷ []

pub path_exact : (p : ℕ) → Exact (λ us x j. FieldAt us p x.header x.field j) (λ us. path_from us p) p a_path
unfolding path_from
path_exact p = reserved_word_then (codes "pkt") (p + 1) (omega arith) (mark_then (codes ".") (p + 2) (omega arith) (name_then _ (p + 3) (omega arith) (λ h. mark_then (codes ".") (p + 4) (omega arith) (name_then _ (p + 5) (omega arith) (λ f.
    done (record { header = h; field = f }) (p + 5) (p + 5) refl (λ us f m h o t. (t, o, h, m, f, refl)))))))

-- the reading of expressions to a depth
record Depth (n : ℕ) : Type 0 where
  exprs : (p : ℕ) → Exact (λ us. ExprsAt us p) (λ us. exprs_from us n p) p true_token
  expr : (l : Level) (p : ℕ) → Exact (λ us. ExprAt us l p) (λ us. expr_from us n l p) p true_token
  rest : (l m : Level) → part l ≡ Some m → (a : Expr) (p : ℕ) → Exact (λ us. RestAt us l a p) (λ us. rest_from us n l a p) p []

no_exprs_depth : Depth zero
no_exprs_depth = record { exprs = λ p. no_depth p true_token (exprs_ends p); expr = λ l p. no_depth p true_token (expr_ends l p); rest = λ l m e a p. no_depth p [] (rest_ends l a p) }

chain_exact : {n : ℕ} → Depth n → (l m : Level) → part l ≡ Some m → (p : ℕ) → Exact (λ us. ExprAt us l p) (λ us. after (expr_from us n m p) (rest_from us n l)) p true_token
chain_exact d l m e p = phrase_then _ [] (d.expr m p) (λ a j. as_well (λ us y k r h. a_chain e h r) (d.rest l m e a j))

bracketed_exact : {n : ℕ} → Depth n → (p : ℕ) (c : Expr) (j : ℕ) → Exact (λ us y k. ExprAt us of_expr (suc p) c j → Mark us p (codes "(") → ExprAt us of_prim p y k) (λ us. bracketed us (expr_from us n of_expr) c j) j (mark (codes ")") ∷ [])
bracketed_exact d p c j = either_mark (codes "?") (suc j) refl
    (phrase_then _ (mark (codes ":") ∷ keyword (codes "true") ∷ mark (codes ")") ∷ []) (d.expr of_expr (suc j)) (λ a k. mark_then (codes ":") (suc k) refl
    (phrase_then _ (mark (codes ")") ∷ []) (d.expr of_expr (suc k)) (λ b l. mark_then (codes ")") (suc l) refl (done (pick (token_index c) c a b) (suc l) (suc l) refl (λ us z db o da q dc t. a_pick t dc q da o db z))))))
    (mark_then (codes ")") (suc j) refl (done c (suc j) (suc j) refl (λ us z d o. in_brackets o d z)))

prim_exact : {n : ℕ} → Depth n → (p : ℕ) → Exact (λ us. ExprAt us of_prim p) (λ us. prim_of us (expr_from us n of_expr) (exprs_from us n) p (slice_get us p)) p true_token
prim_exact {n} d p = by_token (λ us k. prim_of us (expr_from us n of_expr) (exprs_from us n) p k) p (expr_ends of_prim p) over
  where
    no : (ts : List Kind) → p ≤ length ts → Justifies (λ us. ExprAt us of_prim p) (λ us. bad p) ts p (bad p)
    no = stopped p true_token (expr_ends of_prim p)

    by_reserved_word : (x : List ℕ) (b c : Bool) → same_name x (codes "true") ≡ b → same_name x (codes "false") ≡ c → (ts : List Kind) → p ≤ length ts → slice_get ts p ≡ Some (keyword x) →
        Justifies (λ us. ExprAt us of_prim p) (λ us. if b then good (true_or_false p true) (suc p) else if c then good (true_or_false p false) (suc p) else after (path_from us p) (λ x j. good (field p x.header x.field) j)) ts p
        (if b then good (true_or_false p true) (suc p) else if c then good (true_or_false p false) (suc p) else after (path_from ts p) (λ x j. good (field p x.header x.field) j))
    by_reserved_word x true c e f ts h t = takes (suc p) (keyword (codes "true")) refl refl (done (true_or_false p true) (suc p) (suc p) refl (λ us t. a_true t)) ts (t ∙ ap (λ z. Some (keyword z)) (text_is x (codes "true") e))
    by_reserved_word x false true e f ts h t = takes (suc p) (keyword (codes "false")) refl refl (done (true_or_false p false) (suc p) (suc p) refl (λ us t. a_false t)) ts (t ∙ ap (λ z. Some (keyword z)) (text_is x (codes "false") f))
    by_reserved_word x false false e f ts h t = (phrase_then {P = λ us. ExprAt us of_prim p} (λ us x j. good (field p x.header x.field) j) [] (path_exact p) (λ x j. done (field p x.header x.field) j j refl (λ us g. a_field g))).justified ts h

    by_mark : (m : List ℕ) (b : Bool) → same_name m (codes "(") ≡ b → (ts : List Kind) → p ≤ length ts → slice_get ts p ≡ Some (mark m) →
        Justifies (λ us. ExprAt us of_prim p) (λ us. if b then after (expr_from us n of_expr (suc p)) (bracketed us (expr_from us n of_expr)) else bad p) ts p (if b then after (expr_from ts n of_expr (suc p)) (bracketed ts (expr_from ts n of_expr)) else bad p)
    by_mark m true e ts h t = takes (suc p) (mark (codes "(")) refl refl (phrase_then _ (mark (codes ")") ∷ []) (d.expr of_expr (suc p)) (bracketed_exact d p)) ts (t ∙ ap (λ z. Some (mark z)) (text_is m (codes "(") e))
    by_mark m false e ts h t = no ts h

    over : (k : Option Kind) (ts : List Kind) → p ≤ length ts → slice_get ts p ≡ k → Justifies (λ us. ExprAt us of_prim p) (λ us. prim_of us (expr_from us n of_expr) (exprs_from us n) p k) ts p (prim_of ts (expr_from ts n of_expr) (exprs_from ts n) p k)
    over None ts h t = no ts h
    over (Some (a_name x)) ts h t = takes (p + 1) (a_name x) (omega arith) refl
        (either_mark (codes "(") (p + 2) (omega arith)
        (phrase_then _ (mark (codes ")") ∷ []) (d.exprs (p + 2)) (λ xs j. mark_then (codes ")") (suc j) refl (done (call p (record { at = p; text = x }) xs) (suc j) (suc j) refl (λ us c ds o t. a_call (t, refl) o ds c))))
        (done (name p x) (suc p) (p + 1) (omega arith) (λ us t. a_variable t))) ts t
    over (Some (keyword x)) ts h t = by_reserved_word x (same_name x (codes "true")) (same_name x (codes "false")) refl refl ts h t
    over (Some (plain m)) ts h t = no ts h
    over (Some (literal w m)) ts h t = takes (suc p) (literal w m) refl refl (done (lit p w m) (suc p) (suc p) refl (λ us t. a_literal t)) ts t
    over (Some (mark m)) ts h t = by_mark m (same_name m (codes "(")) refl ts h t
    over (Some finish) ts h t = no ts h

-- ---- one step of depth

expr_step : {n : ℕ} → Depth n → (l : Level) (p : ℕ) → Exact (λ us. ExprAt us l p) (λ us. expr_from us (suc n) l p) p true_token
expr_step {n} d of_expr p = phrase_then _ [] (d.expr of_or p) (λ a j. implied_exact of_expr Implies (refl, tt) a j _ (λ us h. no_implication h) (λ op e.
    subst (λ o. Exact (λ us y k. Is us j (operator o) → ExprAt us of_or p a j → ExprAt us of_expr p y k) (λ us. after (expr_from us n of_expr (suc j)) (λ b k. good (binary (token_index a) o a b) k)) (suc j) true_token) (sym e)
    (phrase_then _ [] (d.expr of_expr (suc j)) (λ b k. done (binary (token_index a) implies a b) k k refl (λ us f t d. an_implication d t f)))))
expr_step {n} d of_or p = chain_exact d of_or of_and refl p
expr_step {n} d of_and p = chain_exact d of_and of_cmp refl p
expr_step {n} d of_cmp p = phrase_then _ [] (d.expr of_cat p) (λ a j. implied_exact of_cmp IsComparison comparison_ops a j _ (λ us h. no_comparison h) (λ op c.
    phrase_then _ [] (d.expr of_cat (suc j)) (λ b k. done (binary (token_index a) op a b) k k refl (λ us f t d. a_comparison c d t f))))
expr_step {n} d of_cat p = chain_exact d of_cat of_bit refl p
expr_step {n} d of_bit p = chain_exact d of_bit of_sum refl p
expr_step {n} d of_sum p = chain_exact d of_sum of_unary refl p
expr_step {n} d of_unary p = either_mark (codes "~") (suc p) refl (phrase_then _ [] (d.expr of_unary (suc p)) (λ a j. done (unary p flip a) j j refl (λ us d t. a_flip t d)))
    (either_reserved_word (codes "not") (suc p) refl (phrase_then _ [] (d.expr of_unary (suc p)) (λ a j. done (unary p not_ a) j j refl (λ us d t. a_not t d)))
    (as_well (λ us y k h. no_unary h) (d.expr of_post p)))
expr_step {n} d of_post p = chain_exact d of_post of_prim refl p
expr_step {n} d of_prim p = prim_exact d p

slice_exact : {n : ℕ} → Depth n → (a : Expr) (p : ℕ) → Exact (λ us y k. Mark us p (codes "[") → RestAt us of_post a p y k) (λ us. sliced us p (λ high low. rest_from us n of_post (slice (token_index a) a high low) (p + 5))) (p + 1) (some_number ∷ mark (codes ":") ∷ some_number ∷ mark (codes "]") ∷ [])
slice_exact d a p = number_then _ (p + 2) (omega arith) (λ high. mark_then (codes ":") (p + 3) (omega arith) (number_then _ (p + 4) (omega arith) (λ low. mark_then (codes "]") (p + 5) (omega arith)
    (as_well (λ us y k r x w v u t. a_slice t u v w x r) (d.rest of_post of_prim refl (slice (token_index a) a high low) (p + 5))))))

part_exact : {n : ℕ} → Depth n → (l m : Level) → part l ≡ Some m → (a : Expr) (p : ℕ) (op : BinaryOp) → IsChain l op → Exact (λ us y k. Is us p (operator op) → RestAt us l a p y k) (λ us. after (part_from (expr_from us n) (part l) (suc p)) (λ b k. rest_from us n l (binary (token_index a) op a b) k)) (suc p) true_token
part_exact {n} d l m e a p op c =
    subst (λ o. Exact (λ us y k. Is us p (operator op) → RestAt us l a p y k) (λ us. after (part_from (expr_from us n) o (suc p)) (λ b k. rest_from us n l (binary (token_index a) op a b) k)) (suc p) true_token) (sym e)
    (phrase_then _ [] (d.expr m (suc p)) (λ b j. as_well (λ us y k r h t. a_part e c t h r) (d.rest l m e (binary (token_index a) op a b) j)))

rest_step : {n : ℕ} → Depth n → (l m : Level) → part l ≡ Some m → (a : Expr) (p : ℕ) → Exact (λ us. RestAt us l a p) (λ us. rest_from us (suc n) l a p) p []
rest_step {n} d l m e a p =
    by_token (λ us k. if is_post l && is_mark (codes "[") k then sliced us p (λ high low. rest_from us n l (slice (token_index a) a high low) (p + 5)) else by_op (op_at l k) (good a p) (λ op. after (part_from (expr_from us n) (part l) (suc p)) (λ b k. rest_from us n l (binary (token_index a) op a b) k)))
    p (rest_ends l a p) (λ k ts h t. by l e k (is_post l && is_mark (codes "[") k) refl ts h t)
  where
    by_part : (l : Level) → part l ≡ Some m → (k : Option Kind) (o : Option BinaryOp) → op_at l k ≡ o → (ts : List Kind) → p ≤ length ts → slice_get ts p ≡ k →
        Justifies (λ us. RestAt us l a p) (λ us. by_op o (good a p) (λ op. after (part_from (expr_from us n) (part l) (suc p)) (λ b k. rest_from us n l (binary (token_index a) op a b) k))) ts p
        (by_op o (good a p) (λ op. after (part_from (expr_from ts n) (part l) (suc p)) (λ b k. rest_from ts n l (binary (token_index a) op a b) k)))
    by_part l e k None q ts h t = (done {P = λ us. RestAt us l a p} a p p refl (λ us. no_part)).justified ts h
    by_part l e k (Some op) q ts h t = let f = op_at-is (IsChain l) l k op (chain_ops l m e) q in takes (suc p) (operator op) refl (no_finish op) (part_exact d l m e a p op f.0) ts (t ∙ f.1)

    by : (l : Level) → part l ≡ Some m → (k : Option Kind) (b : Bool) → (is_post l && is_mark (codes "[") k) ≡ b → (ts : List Kind) → p ≤ length ts → slice_get ts p ≡ k →
        Justifies (λ us. RestAt us l a p) (λ us. if b then sliced us p (λ high low. rest_from us n l (slice (token_index a) a high low) (p + 5)) else by_op (op_at l k) (good a p) (λ op. after (part_from (expr_from us n) (part l) (suc p)) (λ b k. rest_from us n l (binary (token_index a) op a b) k))) ts p
        (if b then sliced ts p (λ high low. rest_from ts n l (slice (token_index a) a high low) (p + 5)) else by_op (op_at l k) (good a p) (λ op. after (part_from (expr_from ts n) (part l) (suc p)) (λ b k. rest_from ts n l (binary (token_index a) op a b) k)))
    by of_post e k true q ts h t = takes (p + 1) (mark (codes "[")) (omega arith) refl (slice_exact d a p) ts (t ∙ mark_is (codes "[") k q)
    by _ e k true q ts h t = absurd cc
    by l e k false q ts h t = by_part l e k (op_at l k) refl ts h t

exprs_step : {n : ℕ} → Depth n → (p : ℕ) → Exact (λ us. ExprsAt us p) (λ us. exprs_from us (suc n) p) p true_token
exprs_step d p = phrase_then _ [] (d.expr of_expr p) (λ a j. either_mark (codes ",") (suc j) refl
    (phrase_then _ [] (d.exprs (suc j)) (λ es k. done (expr a es) k k refl (λ us ds t d. more_exprs d t ds)))
    (done (expr a no_exprs) j j refl (λ us d. last_expr d)))

depth : (n : ℕ) → Depth n
depth zero = no_exprs_depth
depth (suc n) = let d = depth n in record { exprs = exprs_step d; expr = expr_step d; rest = rest_step d }

pub expr_exact : (n p : ℕ) → Exact (λ us. ExprAt us of_expr p) (λ us. expr_from us n of_expr p) p true_token
expr_exact n p = (depth n).expr of_expr p

pub exprs_exact : (n p : ℕ) → Exact (λ us. ExprsAt us p) (λ us. exprs_from us n p) p true_token
exprs_exact n p = (depth n).exprs p
