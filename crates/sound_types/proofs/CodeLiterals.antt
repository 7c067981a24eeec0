-- The literals of the trees of the code fit, since numbers of the code do.
use Rattle.std.proofs.Common.{◌≡◌, inl, inr, ℕ, ◌^◌, List, [], ◌∷◌, ◌++◌, map, true, Option, Some, None, option_map, refl, sym, subst, ◌∙◌}
use Rattle.std.specs.List.{list_all}
use Rattle.std.proofs.lemmas.Bool.{lt-ltb}
use Rattle.std.proofs.lemmas.List.Folds.{list_all-append}
use Rattle.cocoon_num.specs.Tree as tree
use Rattle.cocoon_num.specs.Values.{fits_width}
use Rattle.cocoon_syntax.specs.declared.expr.Expr.{Expr, fold-roll-Expr, ind-Expr, map-Expr}
use Rattle.cocoon_syntax.specs.declared.expr.ExprKind.{ExprKind, fold-roll-ExprKind, map-ExprKind}
use Rattle.cocoon_syntax.specs.declared.expr.ExprKind.TheOpen.{ExprKind-F}
use Rattle.cocoon_syntax.specs.declared.stmt.Stmt.{Stmt, fold-roll-Stmt, ind-Stmt, map-Stmt}
use Rattle.cocoon_syntax.specs.declared.stmt.StmtKind.{StmtKind, fold-roll-StmtKind, map-StmtKind}
use Rattle.cocoon_syntax.specs.declared.stmt.StmtKind.TheOpen.{StmtKind-F}
use Rattle.cocoon_syntax.specs.declared.decl.Decl.{Decl}
use Rattle.cocoon_syntax.specs.declared.decl.Decl.TheVariants as decls
use Rattle.cocoon_syntax.specs.declared.decl.Design.{Design}
use Rattle.cocoon_syntax.specs.declared.defs.Const.{Const}
use Rattle.cocoon_syntax.specs.declared.defs.Const.TheVariants as consts
use Rattle.cocoon_syntax.specs.declared.defs.Entry.{Entry}
use Rattle.cocoon_syntax.specs.declared.defs.Entry.TheVariants as entries
use Rattle.cocoon_syntax.specs.declared.defs.DefsText.{DefsText}
use Rattle.cocoon_syntax.specs.TreeOf.{block_of, body_of, const_of, decl_of, design_of, entries_of, entry_of, expr_of, expr_step, exprs_of, kind_of, kind_step, refine_of, stmt_kind_of, stmt_kind_step, stmt_of, stmt_step}
use Rattle.cocoon_types.specs.Parts.{parts, parts_of}
use Rattle.sound_types.specs.Literals.{DesignLiteralsFit, EntriesFit, LiteralsFit, entry_value, literal_fits, value_within}
use Rattle.sound_types.proofs.Levels.{block_decls}
use Rattle.sound_types.proofs.Members.{In, flat_in, in_either, map_in}
use Rattle.sound_types.proofs.Options.{true_both}
use Rattle.sound_types.proofs.TreeLiterals.{BlockFits, DeclFits, ExprsFit, IfThere, StmtFits, design_fits}

abbrev KindFits : ExprKind → Type 0
KindFits k = (at : ℕ) → LiteralsFit (kind_of k at)

abbrev ExprFits : Expr → Type 0
ExprFits e = LiteralsFit (expr_of e)

abbrev Kinds : Type 0
Kinds = (k : ExprKind) × KindFits k

abbrev Exprs : Type 0
Exprs = (e : Expr) × ExprFits e

-- one level
abbrev layer : ExprKind-F Kinds Exprs → ExprKind-F (ℕ → tree.Expr) tree.Expr
layer y = map-ExprKind ExprKind Expr (ℕ → tree.Expr) tree.Expr kind_of expr_of (map-ExprKind Kinds Exprs ExprKind Expr (λ k. k.0) (λ e. e.0) y)

both_fit : (a b : List tree.Expr) → list_all literal_fits a ≡ true → list_all literal_fits b ≡ true → list_all literal_fits (a ++ b) ≡ true
both_fit a b p q = list_all-append literal_fits a b ∙ true_both (list_all literal_fits a) (list_all literal_fits b) p q

args_fit : (es : List Exprs) → list_all literal_fits (parts_of (exprs_of (map expr_of (map (λ e. e.0) es)))) ≡ true
args_fit [] = refl
args_fit (e ∷ es) = both_fit (parts (expr_of e.0)) (parts_of (exprs_of (map expr_of (map (λ x. x.0) es)))) e.1 (args_fit es)

layer_fits : (y : ExprKind-F Kinds Exprs) (at : ℕ) → LiteralsFit (kind_step (layer y) at)
layer_fits (ExprKind-F.Name t) at = refl
layer_fits (ExprKind-F.Field h f) at = refl
layer_fits (ExprKind-F.Lit b) at = true_both (fits_width b.width b.value) true (lt-ltb b.value (2 ^ b.width) b.fits) refl
layer_fits (ExprKind-F.Truth b) at = refl
layer_fits (ExprKind-F.Call f es) at = args_fit es.items
layer_fits (ExprKind-F.Unary op a) at = a.value.1
layer_fits (ExprKind-F.Binary op a b) at = both_fit (parts (expr_of a.value.0)) (parts (expr_of b.value.0)) a.value.1 b.value.1
layer_fits (ExprKind-F.Slice a high low) at = a.value.1
layer_fits (ExprKind-F.Pick c a b) at =
    both_fit (parts (expr_of c.value.0) ++ parts (expr_of a.value.0)) (parts (expr_of b.value.0)) (both_fit (parts (expr_of c.value.0)) (parts (expr_of a.value.0)) c.value.1 a.value.1) b.value.1

pub expr_fits : (e : Expr) → LiteralsFit (expr_of e)
expr_fits = ind-Expr KindFits ExprFits
    (λ x y is at.
    subst (λ k. LiteralsFit (k at)) (sym (fold-roll-ExprKind (ℕ → tree.Expr) tree.Expr kind_step expr_step x))
    (subst (λ z. LiteralsFit (kind_step (map-ExprKind ExprKind Expr (ℕ → tree.Expr) tree.Expr kind_of expr_of z) at)) is (layer_fits y at)))
    (λ x y is.
    subst LiteralsFit (sym (fold-roll-Expr (ℕ → tree.Expr) tree.Expr kind_step expr_step x))
    (subst (λ z. LiteralsFit (expr_step (map-Expr ExprKind Expr (ℕ → tree.Expr) tree.Expr kind_of expr_of z))) is (y.kind.1 y.at)))

-- ---- statements

abbrev StmtKindFits : StmtKind → Type 0
StmtKindFits k = (at : ℕ) → StmtFits (stmt_kind_of k at)

abbrev CodeStmtFits : Stmt → Type 0
CodeStmtFits s = StmtFits (stmt_of s)

abbrev StmtKinds : Type 0
StmtKinds = (k : StmtKind) × StmtKindFits k

abbrev Stmts : Type 0
Stmts = (s : Stmt) × CodeStmtFits s

abbrev stmt_layer : StmtKind-F StmtKinds Stmts → StmtKind-F (ℕ → tree.Stmt) tree.Stmt
stmt_layer y = map-StmtKind StmtKind Stmt (ℕ → tree.Stmt) tree.Stmt stmt_kind_of stmt_of (map-StmtKind StmtKinds Stmts StmtKind Stmt (λ k. k.0) (λ s. s.0) y)

sent_fit : (es : List Expr) → ExprsFit (exprs_of (map expr_of es))
sent_fit [] = tt
sent_fit (e ∷ es) = (expr_fits e, sent_fit es)

stmts_fit : (ss : List Stmts) → BlockFits (block_of (map stmt_of (map (λ s. s.0) ss)))
stmts_fit [] = tt
stmts_fit (s ∷ ss) = (s.1, stmts_fit ss)

stmt_layer_fits : (y : StmtKind-F StmtKinds Stmts) (at : ℕ) → StmtFits (stmt_kind_step (stmt_layer y) at)
stmt_layer_fits (StmtKind-F.Let x w e) at = expr_fits e
stmt_layer_fits (StmtKind-F.SetField h f e) at = expr_fits e
stmt_layer_fits (StmtKind-F.If e a b) at = (expr_fits e, stmts_fit a.items, stmts_fit b.items)
stmt_layer_fits (StmtKind-F.Filter e) at = expr_fits e
stmt_layer_fits (StmtKind-F.HavocVar x w) at = tt
stmt_layer_fits (StmtKind-F.HavocField h f) at = tt
stmt_layer_fits (StmtKind-F.Assume e) at = expr_fits e
stmt_layer_fits (StmtKind-F.Fork x w e body) at = (expr_fits e, stmts_fit body.items)
stmt_layer_fits (StmtKind-F.Send r es) at = sent_fit es.items

stmt_fits : (s : Stmt) → CodeStmtFits s
stmt_fits = ind-Stmt StmtKindFits CodeStmtFits
    (λ x y is at.
    subst (λ k. StmtFits (k at)) (sym (fold-roll-StmtKind (ℕ → tree.Stmt) tree.Stmt stmt_kind_step stmt_step x))
    (subst (λ z. StmtFits (stmt_kind_step (map-StmtKind StmtKind Stmt (ℕ → tree.Stmt) tree.Stmt stmt_kind_of stmt_of z) at)) is (stmt_layer_fits y at)))
    (λ x y is.
    subst StmtFits (sym (fold-roll-Stmt (ℕ → tree.Stmt) tree.Stmt stmt_kind_step stmt_step x))
    (subst (λ z. StmtFits (stmt_step (map-Stmt StmtKind Stmt (ℕ → tree.Stmt) tree.Stmt stmt_kind_of stmt_of z))) is (y.kind.1 y.at)))

-- ---- declarations

block_fits : (ss : List Stmt) → BlockFits (block_of (map stmt_of ss))
block_fits [] = tt
block_fits (s ∷ ss) = (stmt_fits s, block_fits ss)

there : {A B : Type 0} (P : B → Type 0) (f : A → B) → ((a : A) → P (f a)) → (o : Option A) → IfThere P (option_map f o)
there P f h None = tt
there P f h (Some a) = h a

decl_fits : (d : Decl) → DeclFits (decl_of d)
decl_fits (decls.Function f) = there LiteralsFit expr_of expr_fits f.body
decl_fits (decls.Assume a) = expr_fits a.body
decl_fits (decls.Role r) = (expr_fits r.guard, there BlockFits body_of (λ ss. block_fits ss.items) r.body)
decl_fits (decls.Host h) = tt
decl_fits (decls.Switch s) = tt

decls_fit : (ds : List Decl) (x : tree.Decl) → In x (map decl_of ds) → DeclFits x
decls_fit ds x i = let t = map_in decl_of x ds i in subst DeclFits (sym t.2) (decl_fits t.0)

pub code_design_fits : (d : Design) → DesignLiteralsFit (design_of d)
code_design_fits d = design_fits (design_of d) (λ x i. elim (in_either x (map decl_of d.decls.items) (block_decls (map refine_of d.refines.items)) i) [
  | inl k ↦ decls_fit d.decls.items x k
  | inr k ↦
      let t = flat_in (λ (b : tree.Refine). b.decls) x (map refine_of d.refines.items) k in
      let u = map_in refine_of t.0 d.refines.items t.1 in
      decls_fit u.0.decls.items x (subst (λ (b : tree.Refine). In x b.decls) u.2 t.2)
])

-- ---- definitions

const_within : (c : Const) → value_within (const_of c) ≡ true
const_within (consts.Number b) = lt-ltb b.value (2 ^ b.width) b.fits
const_within (consts.Truth b) = refl

entry_within : (e : Entry) → value_within (entry_value (entry_of e)) ≡ true
entry_within (entries.Default f c) = const_within c
entry_within (entries.Define f ps c) = const_within c

entries_within : (es : List Entry) → EntriesFit (map entry_of es)
entries_within [] = refl
entries_within (e ∷ es) = true_both (value_within (entry_value (entry_of e))) (list_all (λ x. value_within (entry_value x)) (map entry_of es)) (entry_within e) (entries_within es)

pub code_entries_fit : (d : DefsText) → EntriesFit (entries_of d)
code_entries_fit d = entries_within d.entries.items
