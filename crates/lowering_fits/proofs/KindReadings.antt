-- The literals of a tree that was read are as wide as its text has them, and its functions have parameters.
use Rattle.std.proofs.Common.{◌≡◌, inl, inr, ℕ, ◌==◌, not, List, length, take, Bool, true, Option, refl, sym, subst, arith}
use Rattle.cocoon_num.specs.Reads.{Reads, Many, no_more, one_more, Commas, last, then_comma, Level, ExprAt, RestAt, ExprsAt, no_implication, an_implication, a_chain, no_comparison, a_comparison, a_flip, a_not, no_unary, a_variable, a_call, a_field, a_literal, a_true, a_false, in_brackets, a_pick, no_part, a_part, a_slice, last_expr, more_exprs, ParamAt, StmtAt, StmtsAt, BlockAt, a_let, a_setting, an_if, an_if_else, a_filter, a_havoc, a_field_havoc, an_assume, a_fork, a_send, no_stmt, one_stmt, a_block, BodyAt, without_body, with_body, RoleBodyAt, no_block, its_block, DeclAt, the_function, the_assumption, the_role, the_host, the_switch, RefineAt, the_block}
use Rattle.cocoon_num.specs.Tokens.{Kind, kinds}
use Rattle.cocoon_num.specs.Tree.{Param, Expr, Exprs, Stmt, Block, FunctionDecl, Decl, a_function, an_assumption, a_role, a_host, a_switch, Refine, Design}
use Rattle.cocoon_types.specs.Design.{all_decls, as_function, functions, last_level}
use Rattle.lowering_fits.specs.WideLiterals.{has_params, has_wide_literals, if_some, wide_block, wide_decl, wide_expr, wide_exprs, wide_stmt}
use Rattle.sound_types.proofs.Levels.{block_decls}
use Rattle.sound_types.proofs.Members.{In, at_all, flat_in, in_either, in_filter}
use Rattle.sound_types.proofs.Options.{true_both}
use Rattle.lowering_fits.proofs.Programs.{is_function}
use Rattle.lowering_correct.proofs.NetParts.{taken_blocks}
use Rattle.lowering_fits.proofs.WideTokens.{AllWide, tokens_wide, wide_there}

-- ---- expressions

mutual
  expr_wide : (ts : List Kind) → AllWide ts → {l : Level} {i j : ℕ} {a : Expr} → ExprAt ts l i a j → wide_expr a ≡ true
  expr_wide ts s (no_implication p) = expr_wide ts s p
  expr_wide ts s (an_implication p o q) = true_both _ _ (expr_wide ts s p) (expr_wide ts s q)
  expr_wide ts s (a_chain e p r) = rest_wide ts s r (expr_wide ts s p)
  expr_wide ts s (no_comparison p) = expr_wide ts s p
  expr_wide ts s (a_comparison c p o q) = true_both _ _ (expr_wide ts s p) (expr_wide ts s q)
  expr_wide ts s (a_flip m p) = expr_wide ts s p
  expr_wide ts s (a_not m p) = expr_wide ts s p
  expr_wide ts s (no_unary p) = expr_wide ts s p
  expr_wide ts s (a_variable n) = refl
  expr_wide ts s (a_call n o p c) = exprs_wide ts s p
  expr_wide ts s (a_field p) = refl
  expr_wide ts s (a_literal {i = i} {width = w} {n = n} h) = wide_there ts s i w n h
  expr_wide ts s (a_true n) = refl
  expr_wide ts s (a_false n) = refl
  expr_wide ts s (in_brackets o p c) = expr_wide ts s p
  expr_wide ts s (a_pick o p m q n r c) = true_both _ _ (true_both _ _ (expr_wide ts s p) (expr_wide ts s q)) (expr_wide ts s r)

  rest_wide : (ts : List Kind) → AllWide ts → {l : Level} {j n : ℕ} {a b : Expr} → RestAt ts l a j b n → wide_expr a ≡ true → wide_expr b ≡ true
  rest_wide ts s no_part h = h
  rest_wide ts s (a_part e c o p r) h = rest_wide ts s r (true_both _ _ h (expr_wide ts s p))
  rest_wide ts s (a_slice o x m l c r) h = rest_wide ts s r h

  exprs_wide : (ts : List Kind) → AllWide ts → {i j : ℕ} {es : Exprs} → ExprsAt ts i es j → wide_exprs es ≡ true
  exprs_wide ts s (last_expr p) = true_both _ true (expr_wide ts s p) refl
  exprs_wide ts s (more_exprs p m q) = true_both _ _ (expr_wide ts s p) (exprs_wide ts s q)

-- ---- statements

mutual
  stmt_wide : (ts : List Kind) → AllWide ts → {i j : ℕ} {x : Stmt} → StmtAt ts i x j → wide_stmt x ≡ true
  stmt_wide ts s (a_let w q m e c) = expr_wide ts s e
  stmt_wide ts s (a_setting p m e c) = expr_wide ts s e
  stmt_wide ts s (an_if w o e c a) = true_both _ true (true_both _ _ (expr_wide ts s e) (block_wide ts s a)) refl
  stmt_wide ts s (an_if_else w o e c a m b) = true_both _ _ (true_both _ _ (expr_wide ts s e) (block_wide ts s a)) (block_wide ts s b)
  stmt_wide ts s (a_filter w e c) = expr_wide ts s e
  stmt_wide ts s (a_havoc w q c) = refl
  stmt_wide ts s (a_field_havoc w q c) = refl
  stmt_wide ts s (an_assume w e c) = expr_wide ts s e
  stmt_wide ts s (a_fork w o q m e c b) = true_both _ _ (expr_wide ts s e) (block_wide ts s b)
  stmt_wide ts s (a_send w n o p c m) = exprs_wide ts s p

  stmts_wide : (ts : List Kind) → AllWide ts → {i j : ℕ} {b : Block} → StmtsAt ts i b j → wide_block b ≡ true
  stmts_wide ts s no_stmt = refl
  stmts_wide ts s (one_stmt p q) = true_both _ _ (stmt_wide ts s p) (stmts_wide ts s q)

  block_wide : (ts : List Kind) → AllWide ts → {i j : ℕ} {b : Block} → BlockAt ts i b j → wide_block b ≡ true
  block_wide ts s (a_block o p c) = stmts_wide ts s p

-- ---- declarations

body_wide : (ts : List Kind) → AllWide ts → {i j : ℕ} {e : Option Expr} → BodyAt ts i e j → if_some wide_expr e ≡ true
body_wide ts s (without_body m) = refl
body_wide ts s (with_body m p c) = expr_wide ts s p

role_body_wide : (ts : List Kind) → AllWide ts → {i j : ℕ} {b : Option Block} → RoleBodyAt ts i b j → if_some wide_block b ≡ true
role_body_wide ts s (no_block m) = refl
role_body_wide ts s (its_block m p) = block_wide ts s p

-- a declaration's literals, and that a function has parameters
abbrev has_param : Decl → Bool
has_param (a_function f) = not (length f.params == 0)
has_param (an_assumption a) = true
has_param (a_role r) = true
has_param (a_host h) = true
has_param (a_switch s) = true

some_params : {ts : List Kind} {i j : ℕ} {ps : List Param} → Commas ts (ParamAt ts) i ps j → not (length ps == 0) ≡ true
some_params (last h) = refl
some_params (then_comma {xs = xs} h m rest) = grind arith

record IsPlain (d : Decl) : Type 0 where
  wide : wide_decl d ≡ true
  params : has_param d ≡ true

decl_plain : (ts : List Kind) → AllWide ts → {i j : ℕ} {d : Decl} → DeclAt ts i d j → IsPlain d
decl_plain ts s (the_function w n o p c m r b) = record { wide = body_wide ts s b; params = some_params p }
decl_plain ts s (the_assumption w a o p c e m) = record { wide = refl; params = refl }
decl_plain ts s (the_role w n o p c m e b) = record { wide = role_body_wide ts s b; params = refl }
decl_plain ts s (the_host w a o e c k l m) = record { wide = refl; params = refl }
decl_plain ts s (the_switch w a o e c k l p q m) = record { wide = refl; params = refl }

decls_plain : (ts : List Kind) → AllWide ts → {i j : ℕ} {ds : List Decl} → Many (DeclAt ts) i ds j → (x : Decl) → In x ds → IsPlain x
decls_plain ts s no_more x i = absurd i
decls_plain ts s (one_more p more) x i = elim i [ inl e ↦ subst IsPlain (sym e) (decl_plain ts s p) | inr k ↦ decls_plain ts s more x k ]

refine_plain : (ts : List Kind) → AllWide ts → {i j : ℕ} {b : Refine} → RefineAt ts i b j → (x : Decl) → In x b.decls → IsPlain x
refine_plain ts s (the_block w a r v n o p c) x i = decls_plain ts s p x i

refines_plain : (ts : List Kind) → AllWide ts → {i j : ℕ} {bs : List Refine} → Many (RefineAt ts) i bs j → (b : Refine) → In b bs → (x : Decl) → In x b.decls → IsPlain x
refines_plain ts s no_more b i x j = absurd i
refines_plain ts s (one_more p more) b i x j = elim i [ inl e ↦ refine_plain ts s p x (subst (λ (c : Refine). In x c.decls) e j) | inr k ↦ refines_plain ts s more b k x j ]

all_plain : (text : List ℕ) (d : Design) → Reads text d → (x : Decl) → In x (all_decls d) → IsPlain x
all_plain text d r x i =
    let ts = kinds r.tokens in
    let s = tokens_wide text r.tokens r.tokens_are in
    elim (in_either x d.decls (block_decls (take (last_level d) d.refines)) i) [
      | inl k ↦ decls_plain ts s r.reads.decls x k
      | inr k ↦
          let t = flat_in (λ (b : Refine). b.decls) x d.refines (taken_blocks (last_level d) d.refines x k) in
          refines_plain ts s r.reads.refines t.0 t.1 x t.2
    ]

pub readings_are_wide : (text : List ℕ) (d : Design) → Reads text d → has_wide_literals d ≡ true
readings_are_wide text d r = at_all wide_decl (all_decls d) (λ x i. (all_plain text d r x i).wide)

pub readings_have_params : (text : List ℕ) (d : Design) → Reads text d → has_params d ≡ true
readings_have_params text d r =
    at_all (λ (f : FunctionDecl). not (length f.params == 0)) (functions d) (λ g i.
    let t = in_filter as_function (all_decls d) g i in
    subst (λ x. has_param x ≡ true) (is_function t.0 g t.2) (all_plain text d r t.0 t.1).params)
