-- Each derivation of an expression is read, where no token follows that goes on with it.
use Rattle.std.specs.Prelude.{◌≡◌, ℕ, suc, ◌+◌, ◌&&◌, Bool, true, false, List, slice_get, Option, Some, None, codes, refl}
use Rattle.std.proofs.Common.{sym, ◌∙◌, ap, subst}
use Rattle.std.proofs.Math.Numerals.{add-one}
use Rattle.cocoon_num.specs.Values.{BinaryOp, add, sub, bits_and, bits_or, bits_xor, concat, equal, unequal, less, less_equal, greater, greater_equal, and_, or_}
use Rattle.cocoon_num.specs.Tree.{Name, Expr, call, Exprs}
use Rattle.cocoon_num.specs.Tokens.{Kind, mark}
use Rattle.cocoon_num.specs.Reads.{FieldAt, Level, of_expr, of_or, of_and, of_cmp, of_cat, of_bit, of_sum, of_unary, of_post, of_prim, part, IsChain, IsComparison, operator, ExprAt, RestAt, ExprsAt, no_implication, an_implication, a_chain, no_comparison, a_comparison, a_flip, a_not, no_unary, no_part, a_part, a_slice, a_variable, a_call, a_field, a_literal, a_true, a_false, in_brackets, a_pick, last_expr, more_exprs}
use Rattle.parsing.specs.PlainParser.{good, after, is_mark, is_keyword, op_at, marked, path_from, is_post, part_from, expr_from, rest_from, exprs_from}
use Rattle.parsing.proofs.Enough.{Enough, always, later, ends_at, chain, marks, reserved_words, names, numbers}

-- ---- where a phrase ends

abbrev pub EndPrim : Option Kind → Type 0
EndPrim k = is_mark (codes "(") k ≡ false

abbrev pub EndPost : Option Kind → Type 0
EndPost k = (is_mark (codes "[") k ≡ false) × EndPrim k

abbrev pub EndSum : Option Kind → Type 0
EndSum k = (op_at of_sum k ≡ None) × EndPost k

abbrev pub EndBit : Option Kind → Type 0
EndBit k = (op_at of_bit k ≡ None) × EndSum k

abbrev pub EndCat : Option Kind → Type 0
EndCat k = (op_at of_cat k ≡ None) × EndBit k

abbrev pub EndCmp : Option Kind → Type 0
EndCmp k = (op_at of_cmp k ≡ None) × EndCat k

abbrev pub EndAnd : Option Kind → Type 0
EndAnd k = (op_at of_and k ≡ None) × EndCmp k

abbrev pub EndOr : Option Kind → Type 0
EndOr k = (op_at of_or k ≡ None) × EndAnd k

abbrev pub EndExpr : Option Kind → Type 0
EndExpr k = (op_at of_expr k ≡ None) × EndOr k

-- the token goes on with no phrase of the level
abbrev pub End : Level → Option Kind → Type 0
End of_expr k = EndExpr k
End of_or k = EndOr k
End of_and k = EndAnd k
End of_cmp k = EndCmp k
End of_cat k = EndCat k
End of_bit k = EndBit k
End of_sum k = EndSum k
End of_unary k = EndPost k
End of_post k = EndPost k
End of_prim k = EndPrim k

abbrev EndOf : Option Level → Option Kind → Type 0
EndOf None k = Unit {0}
EndOf (Some m) k = End m k

inner_end : (l : Level) (k : Option Kind) → End l k → EndOf (part l) k
inner_end of_expr k h = tt
inner_end of_or k h = h.1
inner_end of_and k h = h.1
inner_end of_cmp k h = tt
inner_end of_cat k h = h.1
inner_end of_bit k h = h.1
inner_end of_sum k h = h.1
inner_end of_unary k h = tt
inner_end of_post k h = h.1
inner_end of_prim k h = tt

op_end : (l : Level) (op : BinaryOp) → IsChain l op → EndOf (part l) (Some (operator op))
op_end of_or or_ h = (refl, (refl, (refl, (refl, (refl, (refl, refl))))))
op_end of_and and_ h = (refl, (refl, (refl, (refl, (refl, refl)))))
op_end of_cat concat h = (refl, (refl, (refl, refl)))
op_end of_bit bits_and h = (refl, (refl, refl))
op_end of_bit bits_or h = (refl, (refl, refl))
op_end of_bit bits_xor h = (refl, (refl, refl))
op_end of_sum add h = (refl, refl)
op_end of_sum sub h = (refl, refl)
op_end _ _ h = absurd h

op_is : (l : Level) (op : BinaryOp) → IsChain l op → op_at l (Some (operator op)) ≡ Some op
op_is of_or or_ h = refl
op_is of_and and_ h = refl
op_is of_cat concat h = refl
op_is of_bit bits_and h = refl
op_is of_bit bits_or h = refl
op_is of_bit bits_xor h = refl
op_is of_sum add h = refl
op_is of_sum sub h = refl
op_is _ _ h = absurd h

not_post : (l : Level) (op : BinaryOp) → IsChain l op → is_post l ≡ false
not_post of_or or_ h = refl
not_post of_and and_ h = refl
not_post of_cat concat h = refl
not_post of_bit bits_and h = refl
not_post of_bit bits_or h = refl
not_post of_bit bits_xor h = refl
not_post of_sum add h = refl
not_post of_sum sub h = refl
not_post _ _ h = absurd h

comparison_is : (op : BinaryOp) → IsComparison op → op_at of_cmp (Some (operator op)) ≡ Some op
comparison_is equal h = refl
comparison_is unequal h = refl
comparison_is less h = refl
comparison_is less_equal h = refl
comparison_is greater h = refl
comparison_is greater_equal h = refl
comparison_is _ h = absurd h

cmp_end : (op : BinaryOp) → IsComparison op → EndCat (Some (operator op))
cmp_end equal h = (refl, (refl, (refl, (refl, refl))))
cmp_end unequal h = (refl, (refl, (refl, (refl, refl))))
cmp_end less h = (refl, (refl, (refl, (refl, refl))))
cmp_end less_equal h = (refl, (refl, (refl, (refl, refl))))
cmp_end greater h = (refl, (refl, (refl, (refl, refl))))
cmp_end greater_equal h = (refl, (refl, (refl, (refl, refl))))
cmp_end _ h = absurd h

no_op : (k : Option Kind) → op_at of_post k ≡ None
no_op None = refl
no_op (Some k) = refl

no_slice : (b : Bool) → b ≡ false → (true && b) ≡ false
no_slice b h = h

-- where a phrase of parts ends, nothing more is read
stop_test : (l m : Level) (k : Option Kind) → part l ≡ Some m → End l k → (is_post l && is_mark (codes "[") k) ≡ false
stop_test of_expr m k e h = cc
stop_test of_or m k e h = refl
stop_test of_and m k e h = refl
stop_test of_cmp m k e h = cc
stop_test of_cat m k e h = refl
stop_test of_bit m k e h = refl
stop_test of_sum m k e h = refl
stop_test of_unary m k e h = cc
stop_test of_post m k e h = h.0
stop_test of_prim m k e h = cc

stop_op : (l m : Level) (k : Option Kind) → part l ≡ Some m → End l k → op_at l k ≡ None
stop_op of_expr m k e h = cc
stop_op of_or m k e h = h.0
stop_op of_and m k e h = h.0
stop_op of_cmp m k e h = cc
stop_op of_cat m k e h = h.0
stop_op of_bit m k e h = h.0
stop_op of_sum m k e h = h.0
stop_op of_unary m k e h = cc
stop_op of_post m k e h = no_op k
stop_op of_prim m k e h = cc

-- ---- one step of depth, of a chain

chain_step : {ts : List Kind} (l m : Level) {i : ℕ} {x : Expr} {k : ℕ} → part l ≡ Some m → Enough (λ n. after (expr_from ts n m i) (rest_from ts n l)) x k → Enough (λ n. expr_from ts n l i) x k
chain_step {ts} l m {i} {x} {k} p q = by_level l (subst (λ o. Enough (λ n. after (part_from (expr_from ts n) o i) (rest_from ts n l)) x k) (sym p) q) (ap is_some p)
  where
    is_some : Option Level → Bool
    is_some None = false
    is_some (Some m) = true

    by_level : (l : Level) → Enough (λ n. after (part_from (expr_from ts n) (part l) i) (rest_from ts n l)) x k → is_some (part l) ≡ true → Enough (λ n. expr_from ts n l i) x k
    by_level of_expr q s = cc
    by_level of_or q s = later q
    by_level of_and q s = later q
    by_level of_cmp q s = cc
    by_level of_cat q s = later q
    by_level of_bit q s = later q
    by_level of_sum q s = later q
    by_level of_unary q s = cc
    by_level of_post q s = later q
    by_level of_prim q s = cc

-- ---- first tokens

abbrev part_of : Option Level → Option Level
part_of None = None
part_of (Some l) = part l

abbrev NoUnary : Option Kind → Type 0
NoUnary k = (is_mark (codes "~") k ≡ false) × (is_keyword (codes "not") k ≡ false)

abbrev Prim : Level → Type 0
Prim l = ◌≡◌ {A = Option Level} (Some of_prim) (Some l)

prim_first : {ts : List Kind} {l : Level} {i : ℕ} {a : Expr} {j : ℕ} → ExprAt ts l i a j → Prim l → NoUnary (slice_get ts i)
prim_first (no_implication d) e = absurd cc
prim_first (an_implication d t b) e = absurd cc
prim_first (a_chain {l = l} {m = m} p d r) e = absurd (let f : ◌≡◌ {A = Option Level} None (part l) = ap part_of e in let g : ◌≡◌ {A = Option Level} None (Some m) = f ∙ p in cc)
prim_first (no_comparison d) e = absurd cc
prim_first (a_comparison c d t b) e = absurd cc
prim_first (a_flip t d) e = absurd cc
prim_first (a_not t d) e = absurd cc
prim_first (no_unary d) e = absurd cc
prim_first (a_variable t) e = rw t (refl, refl)
prim_first (a_call t o es c) e = rw t.0 (refl, refl)
prim_first (a_field t) e = rw t.0 (refl, refl)
prim_first (a_literal t) e = rw t (refl, refl)
prim_first (a_true t) e = rw t (refl, refl)
prim_first (a_false t) e = rw t (refl, refl)
prim_first (in_brackets t d c) e = rw t (refl, refl)
prim_first (a_pick t d q x c y z) e = rw t (refl, refl)

post_first : {ts : List Kind} {i : ℕ} {a : Expr} {j : ℕ} → ExprAt ts of_post i a j → NoUnary (slice_get ts i)
post_first (a_chain p d r) = prim_first d p

-- ---- what follows a part

rest_end : {ts : List Kind} {l : Level} {a : Expr} {j : ℕ} {c : Expr} {k : ℕ} → RestAt ts l a j c k → (m : Level) → part l ≡ Some m → End l (slice_get ts k) → End m (slice_get ts j)
rest_end {ts} {l} (no_part {j = j}) m p e = subst (λ o. EndOf o (slice_get ts j)) p (inner_end l (slice_get ts j) e)
rest_end {ts} {l} (a_part {op = op} {j = j} q h t d r) m p e = rw t (subst (λ o. EndOf o (Some (operator op))) p (op_end l op h))
rest_end {ts} (a_slice {j = j} t u v w x r) m p e = rw t (subst (λ o. EndOf o (Some (mark (codes "[")))) p refl)

-- the tokens that end an expression in a text
pub at_closed : EndExpr (Some (mark (codes ")")))
at_closed = (refl, (refl, (refl, (refl, (refl, (refl, (refl, (refl, refl))))))))

pub at_square : EndExpr (Some (mark (codes "]")))
at_square = (refl, (refl, (refl, (refl, (refl, (refl, (refl, (refl, refl))))))))

pub at_comma : EndExpr (Some (mark (codes ",")))
at_comma = (refl, (refl, (refl, (refl, (refl, (refl, (refl, (refl, refl))))))))

pub at_semicolon : EndExpr (Some (mark (codes ";")))
at_semicolon = (refl, (refl, (refl, (refl, (refl, (refl, (refl, (refl, refl))))))))

pub at_equals : EndExpr (Some (mark (codes "=")))
at_equals = (refl, (refl, (refl, (refl, (refl, (refl, (refl, (refl, refl))))))))

at_question : EndExpr (Some (mark (codes "?")))
at_question = (refl, (refl, (refl, (refl, (refl, (refl, (refl, (refl, refl))))))))

at_colon : EndExpr (Some (mark (codes ":")))
at_colon = (refl, (refl, (refl, (refl, (refl, (refl, (refl, (refl, refl))))))))

at_implies : EndOr (Some (mark (codes "=>")))
at_implies = (refl, (refl, (refl, (refl, (refl, (refl, (refl, refl)))))))

-- ---- fields of the packet

pub path_read : (ts : List Kind) (i : ℕ) {h f : Name} {j : ℕ} → FieldAt ts i h f j → Enough (λ n. path_from ts i) (record { header = h; field = f }) j
unfolding path_from
path_read ts i {h = h} {f = f} {j = j} t = ends_at j (sym t.5) (reserved_words _ _ _ t.0 (marks _ _ _ t.1 (names _ _ _ h t.2 (marks _ _ _ t.3 (names _ _ _ f t.4 (always _ _))))))

-- ---- the grammar is read

mutual
  pub expr_read : {ts : List Kind} {l : Level} {i : ℕ} {a : Expr} {j : ℕ} → ExprAt ts l i a j → End l (slice_get ts j) → Enough (λ n. expr_from ts n l i) a j
  expr_read {ts} (no_implication d) e = later (chain _ (expr_read d e.1) (rw e.0 (always _ _)))
  expr_read {ts} (an_implication d t f) e = later (chain _ (expr_read d (rw t at_implies)) (rw t (chain _ (expr_read f e) (always _ _))))
  expr_read {ts} {l} (a_chain {m = m} p d r) e = chain_step l m p (chain _ (expr_read d (rest_end r m p e)) (rest_read r m p e))
  expr_read {ts} (no_comparison d) e = later (chain _ (expr_read d e.1) (rw e.0 (always _ _)))
  expr_read {ts} (a_comparison {op = op} c d t f) e = later (chain _ (expr_read d (rw t (cmp_end op c))) (rw (t, comparison_is op c) (chain _ (expr_read f e.1) (always _ _))))
  expr_read {ts} (a_flip t d) e = later (rw t (chain _ (expr_read d e) (always _ _)))
  expr_read {ts} (a_not t d) e = later (rw t (chain _ (expr_read d e) (always _ _)))
  expr_read {ts} (no_unary d) e = later (rw ((post_first d).0, (post_first d).1) (expr_read d e))
  expr_read {ts} (a_variable t) e = later (rw (t, add-one, e) (always _ _))
  expr_read {ts} {i = i} (a_call {j = j} {f = f} {es = es} t o ds c) e =
      later (rw (t.0, o) (subst (λ at. Enough (λ n. after (exprs_from ts n (i + 2)) (λ xs j. marked ts (codes ")") j (good (call i (record { at = at; text = f.text }) xs) (suc j)))) (call i f es) (suc j)) t.1
      (chain _ (exprs_read ds (rw c at_closed) (rw c refl)) (marks _ _ _ c (always _ _)))))
  expr_read {ts} (a_field t) e = later (rw t.0 (chain _ (path_read _ _ t) (always _ _)))
  expr_read {ts} (a_literal t) e = later (rw t (always _ _))
  expr_read {ts} (a_true t) e = later (rw t (always _ _))
  expr_read {ts} (a_false t) e = later (rw t (always _ _))
  expr_read {ts} (in_brackets d_open d c) e = later (rw d_open (chain _ (expr_read d (rw c at_closed)) (rw c (marks _ _ _ c (always _ _)))))
  expr_read {ts} (a_pick t dc q da o db z) e =
      later (rw t (chain _ (expr_read dc (rw q at_question)) (rw q (chain _ (expr_read da (rw o at_colon)) (marks _ _ _ o (chain _ (expr_read db (rw z at_closed)) (marks _ _ _ z (always _ _))))))))

  pub rest_read : {ts : List Kind} {l : Level} {a : Expr} {j : ℕ} {c : Expr} {k : ℕ} → RestAt ts l a j c k → (m : Level) → part l ≡ Some m → End l (slice_get ts k) → Enough (λ n. rest_from ts n l a j) c k
  rest_read {ts} {l} {a} {j} no_part m p e = later (rw (stop_test l m (slice_get ts j) p e, stop_op l m (slice_get ts j) p e) (always _ _))
  rest_read {ts} {l} (a_part {m = m} {op = op} q h t d r) m' p e =
      later (rw (t, not_post l op h, op_is l op h, q) (chain _ (expr_read d (rest_end r m q e)) (rest_read r m q e)))
  rest_read {ts} (a_slice t u v w x r) m p e =
      later (rw t (numbers _ _ _ u (marks _ _ _ v (numbers _ _ _ w (marks _ _ _ x (rest_read r m p e))))))

  pub exprs_read : {ts : List Kind} {i : ℕ} {es : Exprs} {j : ℕ} → ExprsAt ts i es j → EndExpr (slice_get ts j) → is_mark (codes ",") (slice_get ts j) ≡ false → Enough (λ n. exprs_from ts n i) es j
  exprs_read {ts} (last_expr d) e c = later (chain _ (expr_read d e) (rw c (always _ _)))
  exprs_read {ts} (more_exprs d t ds) e c = later (chain _ (expr_read d (rw t at_comma)) (rw t (chain _ (exprs_read ds e c) (always _ _))))
