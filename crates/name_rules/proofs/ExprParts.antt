-- The faults of an expression and of its parts: its own, and those of its operands.
use Rattle.std.proofs.Common.{◌≡◌, ℕ, ◌+◌, ◌<◌, ◌||◌, Bool, false, List, [], ◌∷◌, ◌++◌, map, drop, length, get_or, Option, is_some, refl, sym, ap, subst, ◌∙◌}
use Rattle.std.specs.List.{list_any}
use Rattle.std.proofs.lemmas.List.{drop_more, map-append}
use Rattle.cocoon_num.specs.Values.{UnaryOp, BinaryOp}
use Rattle.cocoon_num.specs.Tree.{Name, Expr, name, field, lit, true_or_false, call, unary, binary, slice, pick}
use Rattle.cocoon_types.specs.Rules.{unknown_name, late_function}
use Rattle.cocoon_types.specs.RuleParts.{unless}
use Rattle.cocoon_types.specs.NameRules.{unknown_field}
use Rattle.cocoon_types.specs.Parts.{parts, parts_of}
use Rattle.cocoon_types.specs.Typing.{Scope, var_width}
use Rattle.cocoon_types.specs.Sites.{ExprSite}
use Rattle.cocoon_types.specs.FirstFault.{Fault}
use Rattle.cocoon_types.specs.Noting.{Notes, NotingLaws}
use Rattle.cocoon_syntax.specs.TreeOf.{expr_of, exprs_of}
use Rattle.cocoon_syntax.specs.declared.expr.Expr.{Expr as Tree}
use Rattle.cocoon_types.specs.Among.{among}
use Rattle.name_rules.specs.Tests.{at_expr, in_expr, in_exprs}
use Rattle.name_rules.proofs.Membership.{or_false, any-append, among-none}

-- an expression with its scope
abbrev pub site : Scope → Expr → ExprSite
site s e = record { scope = s; e = e }

-- the faults of some parts
abbrev stand_in : Scope → List Expr → Fault → Bool
stand_in s es f = list_any (λ x. at_expr x f) (map (site s) es)

in_both : (s : Scope) (xs ys : List Expr) (f : Fault) → stand_in s (xs ++ ys) f ≡ (stand_in s xs f || stand_in s ys f)
in_both s xs ys f =
    ap (list_any (λ x. at_expr x f)) (map-append (site s) xs ys)
    ∙ any-append (λ x. at_expr x f) (map (site s) xs) (map (site s) ys)

-- the values of a call
in_values : (s : Scope) (es : List Expr) (f : Fault) → stand_in s (parts_of (exprs_of es)) f ≡ in_exprs s es f
in_values s [] f = refl
in_values s (e ∷ es) f = in_both s (parts e) (parts_of (exprs_of es)) f ∙ ap (λ b. in_expr s e f || b) (in_values s es f)

-- an expression that breaks no rule itself
none_at : (f : Fault) → (among unknown_name [] f || among late_function [] f) ≡ false
none_at f = λ i. among-none unknown_name f i || among-none late_function f i

-- a leaf that may name what is unknown
only_unknown : (b : Bool) (f : Fault) → b ≡ ((b || among late_function [] f) || false)
only_unknown b f = sym (or_false (b || among late_function [] f) ∙ ap (λ c. b || c) (among-none late_function f) ∙ or_false b)

module _ (laws : NotingLaws) (s : Scope) where
  pub name_in : (at : ℕ) (x : List ℕ) {o p : Option Fault} → Notes (among unknown_name (unless (is_some (var_width s x)) at)) o p → Notes (in_expr s (name at x)) o p
  name_in at x {o} {p} m =
      laws.alike _ (in_expr s (name at x)) o p (λ f. only_unknown (among unknown_name (unless (is_some (var_width s x)) at) f) f) m

  pub field_in : (at : ℕ) (h g : Name) {o p : Option Fault} → Notes (among unknown_name (unknown_field s h g)) o p → Notes (in_expr s (field at h g)) o p
  field_in at h g {o} {p} m = laws.alike _ (in_expr s (field at h g)) o p (λ f. only_unknown (among unknown_name (unknown_field s h g) f) f) m

  pub lit_in : (at w m : ℕ) (o : Option Fault) → Notes (in_expr s (lit at w m)) o o
  lit_in at w m o = laws.nothing (in_expr s (lit at w m)) o (λ f. ap (λ b. b || false) (none_at f))

  pub truth_in : (at : ℕ) (b : Bool) (o : Option Fault) → Notes (in_expr s (true_or_false at b)) o o
  truth_in at b o = laws.nothing (in_expr s (true_or_false at b)) o (λ f. ap (λ b. b || false) (none_at f))

  pub unary_in : (at : ℕ) (op : UnaryOp) (a : Expr) {o p : Option Fault} → Notes (in_expr s a) o p → Notes (in_expr s (unary at op a)) o p
  unary_in at op a {o} {p} m = laws.alike _ (in_expr s (unary at op a)) o p (λ f. ap (λ b. b || in_expr s a f) (sym (none_at f))) m

  pub slice_in : (at : ℕ) (a : Expr) (high low : ℕ) {o p : Option Fault} → Notes (in_expr s a) o p → Notes (in_expr s (slice at a high low)) o p
  slice_in at a high low {o} {p} m = laws.alike _ (in_expr s (slice at a high low)) o p (λ f. ap (λ b. b || in_expr s a f) (sym (none_at f))) m

  pub binary_in : (at : ℕ) (op : BinaryOp) (a b : Expr) {o p q : Option Fault} → Notes (in_expr s a) o p → Notes (in_expr s b) p q → Notes (in_expr s (binary at op a b)) o q
  binary_in at op a b {o} {p} {q} m n =
      laws.alike _ (in_expr s (binary at op a b)) o q
      (λ f. (λ i. sym (none_at f) i || sym (in_both s (parts a) (parts b) f) i))
      (laws.in_turn _ _ o p q m n)

  pub pick_in : (at : ℕ) (c a b : Expr) {o p q r : Option Fault} → Notes (in_expr s c) o p → Notes (in_expr s a) p q → Notes (in_expr s b) q r → Notes (in_expr s (pick at c a b)) o r
  pick_in at c a b {o} {p} {q} {r} m n k =
      laws.alike _ (in_expr s (pick at c a b)) o r
      (λ f. (λ i. sym (none_at f) i
      || sym (in_both s (parts c ++ parts a) (parts b) f ∙ ap (λ z. z || in_expr s b f) (in_both s (parts c) (parts a) f)) i))
      (laws.in_turn _ _ o q r (laws.in_turn _ _ o p q m n) k)

  pub call_in : (at : ℕ) (g : Name) (es : List Expr) {o p q : Option Fault} → Notes (at_expr (site s (call at g (exprs_of es)))) o p → Notes (in_exprs s es) p q → Notes (in_expr s (call at g (exprs_of es))) o q
  call_in at g es {o} {p} {q} m n =
      laws.alike _ (in_expr s (call at g (exprs_of es))) o q
      (λ f. ap (λ z. at_expr (site s (call at g (exprs_of es))) f || z) (sym (in_values s es f)))
      (laws.in_turn _ _ o p q m n)

  -- the next of some values, and the rest
  pub values_step : (es : List Tree) (i : ℕ) (e : Tree) {o p q : Option Fault} → i < length es → e ≡ get_or es i e
      → Notes (in_expr s (expr_of e)) o p → Notes (in_exprs s (map expr_of (drop (i + 1) es))) p q → Notes (in_exprs s (map expr_of (drop i es))) o q
  values_step es i e {o} {p} {q} l h m n =
      subst (λ (xs : List Expr). Notes (in_exprs s xs) o q) (sym (ap (map expr_of) (drop_more es i e l ∙ ap (λ (y : Tree). y ∷ drop (i + 1) es) (sym h))))
      (laws.in_turn (in_expr s (expr_of e)) (in_exprs s (map expr_of (drop (i + 1) es))) o p q m n)
