-- Lists of expressions and of parameters that are compared, and the call that a value of the code stands for.
use Rattle.std.proofs.Common.{◌≡◌, ℕ, ◌==◌, ◌&&◌, Bool, true, List, [], ◌∷◌, map, length, refl, sym, ap, ◌∙◌, rules, Vec, Global}
use Rattle.cocoon_num.specs.Tree as tree
use Rattle.cocoon_num.specs.Tree.{Exprs}
use Rattle.cocoon_types.specs.LastLevel.{called}
use Rattle.cocoon_types.specs.SameTrees.{same_expr, same_exprs}
use Rattle.cocoon_syntax.specs.declared.expr.Expr.{Expr}
use Rattle.cocoon_syntax.specs.declared.name.Name.{Name}
use Rattle.cocoon_syntax.specs.declared.expr.ExprKind.{the_lemmas}
use Rattle.cocoon_syntax.specs.declared.expr.ExprKind.TheVariants.{Call}
use Rattle.cocoon_syntax.specs.TreeOf.{expr_of, exprs_of, name_of}
use Rattle.form_rules.specs.Guards.{call_of}
use Rattle.form_rules.proofs.Names.{same-refl}

pub seen_call : (e : Expr) (f : Name) (es : Vec Expr Global) → e.kind ≡ Call f es → expr_of e ≡ tree.call e.at (name_of f) (exprs_of (map expr_of es.items))
seen_call e f es h = search (rules, the_lemmas, h)

-- a call names the function that it calls
on_variable : (at : ℕ) (f : tree.Name) (es : Exprs) (x : List ℕ) → same_exprs es (tree.expr (tree.name 0 x) tree.no_exprs) ≡ same_expr (tree.call at f es) (call_of (called (tree.call at f es)) x)
on_variable at f es x = sym (ap (λ b. b && same_exprs es (tree.expr (tree.name 0 x) tree.no_exprs)) (same-refl f.text))

pub called_on : (e : Expr) (f : Name) (es : Vec Expr Global) (x : List ℕ) → e.kind ≡ Call f es
    → same_exprs (exprs_of (map expr_of es.items)) (tree.expr (tree.name 0 x) tree.no_exprs) ≡ same_expr (expr_of e) (call_of (called (expr_of e)) x)
called_on e f es x h =
    on_variable e.at (name_of f) (exprs_of (map expr_of es.items)) x
    ∙ sym (ap (λ t. same_expr t (call_of (called t) x)) (seen_call e f es h))

-- ---- lists

pub none_left : (es : List Expr) → (length es == 0) ≡ same_exprs tree.no_exprs (exprs_of (map expr_of es))
none_left [] = refl
none_left (e ∷ es) = search rules

pub none_right : (es : List Expr) → (length es == 0) ≡ same_exprs (exprs_of (map expr_of es)) tree.no_exprs
none_right [] = refl
none_right (e ∷ es) = search rules

-- one argument, and no other
pub one_argument : (es rest : List Expr) (e : Expr) (x : List ℕ) (b : Bool) → es ≡ e ∷ rest → true ≡ same_expr (expr_of e) (tree.name 0 x) → b ≡ (length rest == 0)
    → b ≡ same_exprs (exprs_of (map expr_of es)) (tree.expr (tree.name 0 x) tree.no_exprs)
one_argument es rest e x b h k m =
    m ∙ none_right rest ∙ ap (λ t. t && same_exprs (exprs_of (map expr_of rest)) tree.no_exprs) k
    ∙ ap (λ l. same_exprs (exprs_of (map expr_of l)) (tree.expr (tree.name 0 x) tree.no_exprs)) (sym h)
