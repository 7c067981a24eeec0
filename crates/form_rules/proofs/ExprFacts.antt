-- Variables in expressions, as the walk over them finds them.
use Rattle.std.proofs.Common.{◌≡◌, ℕ, suc, ◌==◌, ◌&&◌, ◌||◌, Bool, true, false, not, List, [], ◌∷◌, ◌++◌, map, length, reverse, Option, Some, refl, sym, ap, ◌∙◌}
use Rattle.std.proofs.lemmas.List.{length-map, length-reverse, map-append, reverse-append}
use Rattle.std.specs.List.{list_any, list_all}
use Rattle.cocoon_num.specs.Tree.{Name, Expr, name, call, Param, Design}
use Rattle.cocoon_num.specs.Names.{same_name}
use Rattle.cocoon_syntax.specs.TreeOf.{expr_of, exprs_of}
use Rattle.cocoon_syntax.specs.declared.expr.Expr.{Expr as Expression}
use Rattle.cocoon_types.specs.FormRules.{mentions, ends_with, is_own_out, is_runtime, fork_condition}
use Rattle.cocoon_types.specs.Parts.{parts, parts_of, count_of, list_of}
use Rattle.cocoon_types.specs.SameTrees.{same_expr}
use Rattle.form_rules.specs.Tested.{any_mentions}
use Rattle.form_rules.proofs.Membership.{any-append}

-- how many values there are
pub counted : (es : List Expression) → count_of (exprs_of (map expr_of es)) ≡ length es
counted [] = refl
counted (e ∷ es) = ap suc (counted es)

-- ---- variables

abbrev is_var : List ℕ → Expr → Bool
is_var x a = same_expr a (name 0 x)

any-mentions : (x : List ℕ) (es : List Expr) → any_mentions x (exprs_of es) ≡ list_any (mentions x) es
any-mentions x [] = refl
any-mentions x (e ∷ es) = any-append (is_var x) (parts e) (parts_of (exprs_of es)) ∙ ap (λ b. mentions x e || b) (any-mentions x es)

-- of all in turn no test holds
all-not : {A : Type 0} (p : A → Bool) (xs : List A) → list_all (λ a. not (p a)) (reverse xs) ≡ not (list_any p xs)
all-not {A = A} p xs = by (reverse xs) ∙ ap not (turned xs)
  where
    apart : (a b : Bool) → (not a && not b) ≡ not (a || b)
    apart true b = refl
    apart false b = refl

    by : (ys : List A) → list_all (λ a. not (p a)) ys ≡ not (list_any p ys)
    by [] = refl
    by (y ∷ ys) = ap (λ b. not (p y) && b) (by ys) ∙ apart (p y) (list_any p ys)

    swap : (a b : Bool) → (a || (b || false)) ≡ (b || a)
    swap true true = refl
    swap true false = refl
    swap false true = refl
    swap false false = refl

    turned : (ys : List A) → list_any p (reverse ys) ≡ list_any p ys
    turned [] = refl
    turned (y ∷ ys) =
        ap (list_any p) (reverse-append (y ∷ []) ys) ∙ any-append p (reverse ys) (y ∷ [])
        ∙ ap (λ b. b || (p y || false)) (turned ys) ∙ swap (list_any p ys) (p y)

-- a variable is the last of some values, and the others are without it
pub last-alone : (x : List ℕ) (last : Expr) (others all : List Expr) → all ≡ others ++ last ∷ []
    → ((same_expr last (name 0 x) && not (length others == 0)) && not (any_mentions x (exprs_of others))) ≡ ends_with x (reverse all)
last-alone x last others all h =
    (λ i. (same_expr last (name 0 x) && not (sym (length-reverse others) i == 0)) && (ap not (any-mentions x others) ∙ sym (all-not (mentions x) others)) i)
    ∙ ap (ends_with x) (sym (ap reverse h ∙ reverse-append others (last ∷ [])))

list-back : (es : List Expr) → list_of (exprs_of es) ≡ es
list-back [] = refl
list-back (e ∷ es) = ap (λ xs. e ∷ xs) (list-back es)

-- the values of a `send` to the second switch role at the own switch
pub own-known : (out : List ℕ) (own : Option Param) (p : Param) (r : Name) (args rest : List Expression) (first : Expression) → own ≡ Some p → args ≡ first ∷ rest
    → same_name r.text out ≡ true → same_expr (expr_of first) (name 0 p.name.text) ≡ true → (length rest == 1) ≡ is_own_out out own r (exprs_of (map expr_of args))
own-known out own p r args rest first ho ha hr hf =
    (λ i. sym hr i && sym hf i && (sym (counted rest) i == 1))
    ∙ sym (λ i. is_own_out out (ho i) r (exprs_of (map expr_of (ha i))))

-- the last of some values and the others
pub ends-known : (x : List ℕ) (args others : List Expression) (last : Expression) (m : Bool) → args ≡ others ++ last ∷ [] → same_expr (expr_of last) (name 0 x) ≡ true
    → (length others == 0) ≡ false → m ≡ any_mentions x (exprs_of (map expr_of others)) → not m ≡ ends_with x (reverse (map expr_of args))
ends-known x args others last m ha hv hl hm =
    (λ i. (sym hv i && not (sym (ap (λ n. n == 0) (length-map others expr_of) ∙ hl) i)) && not (hm i))
    ∙ last-alone x (expr_of last) (map expr_of others) (map expr_of args) (ap (map expr_of) ha ∙ map-append expr_of others (last ∷ []))

-- a call of a function that is defined at run time
pub of-call : (d : Design) (x : List ℕ) (at : ℕ) (f : Name) (e : Expr) (es : List Expr) (b : Bool) → e ≡ call at f (exprs_of es) → is_runtime d f.text ≡ true → b ≡ ends_with x (reverse es) → b ≡ fork_condition d x e
of-call d x at f e es b i r h =
    h ∙ ap (λ (l : List Expr). ends_with x (reverse l)) (sym (list-back es))
    ∙ ap (λ t. t && ends_with x (reverse (list_of (exprs_of es)))) (sym r)
    ∙ ap (fork_condition d x) (sym i)
