-- The faults of an expression and of its parts: those of its operands, and its own.
use Rattle.std.proofs.Common.{◌≡◌, ℕ, ◌||◌, Bool, true, false, List, [], ◌∷◌, ◌++◌, map, Option, refl, sym, ap, ◌∙◌}
use Rattle.std.proofs.Math.Bool.{or-false}
use Rattle.std.specs.List.{list_any}
use Rattle.std.proofs.lemmas.List.{map-append}
use Rattle.cocoon_num.specs.Values.{UnaryOp, BinaryOp}
use Rattle.cocoon_num.specs.Tree.{Name, Expr, name, field, lit, true_or_false, call, unary, binary, slice, pick}
use Rattle.cocoon_types.specs.Rules.{Rule, too_wide}
use Rattle.cocoon_types.specs.Parts.{parts, parts_of}
use Rattle.cocoon_types.specs.Typing.{Scope}
use Rattle.cocoon_types.specs.Sites.{ExprSite}
use Rattle.cocoon_types.specs.FirstFault.{Fault}
use Rattle.cocoon_types.specs.Noting.{Notes, NotingLaws}
use Rattle.cocoon_syntax.specs.TreeOf.{exprs_of}
use Rattle.type_rules.specs.Tests.{at_expr, in_expr, in_exprs}
use Rattle.type_rules.proofs.Membership.{any-append}

-- an expression with its scope
abbrev pub site : Scope → Expr → ExprSite
site s e = record { scope = s; e = e }

pub or_turn : (a b : Bool) → (a || b) ≡ (b || a)
or_turn true true = refl
or_turn true false = refl
or_turn false true = refl
or_turn false false = refl

-- the faults of some parts
abbrev among : Scope → List Expr → Fault → Bool
among s es f = list_any (λ x. at_expr x f) (map (site s) es)

among-append : (s : Scope) (xs ys : List Expr) (f : Fault) → among s (xs ++ ys) f ≡ (among s xs f || among s ys f)
among-append s xs ys f =
    ap (list_any (λ x. at_expr x f)) (map-append (site s) xs ys)
    ∙ any-append (λ x. at_expr x f) (map (site s) xs) (map (site s) ys)

-- the values of a call
pub in_values : (s : Scope) (es : List Expr) (f : Fault) → among s (parts_of (exprs_of es)) f ≡ in_exprs s es f
in_values s [] f = refl
in_values s (e ∷ es) f = among-append s (parts e) (parts_of (exprs_of es)) f ∙ ap (λ b. in_expr s e f || b) (in_values s es f)

-- ---- leaves that break no rule

name_none : (rule : Rule) (n at : ℕ) (s : Scope) (x : List ℕ) → in_expr s (name at x) (record { rule = rule; at = n }) ≡ false
name_none too_wide n at s x = refl
name_none rule n at s x = refl

lit_none : (rule : Rule) (n at w m : ℕ) (s : Scope) → in_expr s (lit at w m) (record { rule = rule; at = n }) ≡ false
lit_none too_wide n at w m s = refl
lit_none rule n at w m s = refl

truth_none : (rule : Rule) (n at : ℕ) (b : Bool) (s : Scope) → in_expr s (true_or_false at b) (record { rule = rule; at = n }) ≡ false
truth_none too_wide n at b s = refl
truth_none rule n at b s = refl

-- ---- what is noted of an expression with its parts

module _ (laws : NotingLaws) (s : Scope) where
  pub name_in : (at : ℕ) (x : List ℕ) (o : Option Fault) → Notes (in_expr s (name at x)) o o
  name_in at x o = laws.nothing _ o (λ f. name_none f.rule f.at at s x)

  pub lit_in : (at w m : ℕ) (o : Option Fault) → Notes (in_expr s (lit at w m)) o o
  lit_in at w m o = laws.nothing _ o (λ f. lit_none f.rule f.at at w m s)

  pub truth_in : (at : ℕ) (b : Bool) (o : Option Fault) → Notes (in_expr s (true_or_false at b)) o o
  truth_in at b o = laws.nothing _ o (λ f. truth_none f.rule f.at at b s)

  pub field_in : (at : ℕ) (h g : Name) (o p : Option Fault) → Notes (at_expr (site s (field at h g))) o p → Notes (in_expr s (field at h g)) o p
  field_in at h g o p m = laws.alike _ _ o p (λ f. sym (or-false (at_expr (site s (field at h g)) f))) m

  pub unary_in : (at : ℕ) (op : UnaryOp) (a : Expr) (o p q : Option Fault) → Notes (in_expr s a) o p → Notes (at_expr (site s (unary at op a))) p q → Notes (in_expr s (unary at op a)) o q
  unary_in at op a o p q m n =
      laws.alike _ (in_expr s (unary at op a)) o q (λ f. or_turn (in_expr s a f) (at_expr (site s (unary at op a)) f)) (laws.in_turn _ _ o p q m n)

  pub slice_in : (at : ℕ) (a : Expr) (high low : ℕ) (o p q : Option Fault) → Notes (in_expr s a) o p → Notes (at_expr (site s (slice at a high low))) p q → Notes (in_expr s (slice at a high low)) o q
  slice_in at a high low o p q m n =
      laws.alike _ (in_expr s (slice at a high low)) o q (λ f. or_turn (in_expr s a f) (at_expr (site s (slice at a high low)) f)) (laws.in_turn _ _ o p q m n)

  pub binary_in : (at : ℕ) (op : BinaryOp) (a b : Expr) (o p q r : Option Fault) → Notes (in_expr s a) o p → Notes (in_expr s b) p q → Notes (at_expr (site s (binary at op a b))) q r → Notes (in_expr s (binary at op a b)) o r
  binary_in at op a b o p q r m n k =
      laws.alike _ (in_expr s (binary at op a b)) o r
      (λ f. or_turn (in_expr s a f || in_expr s b f) (at_expr (site s (binary at op a b)) f) ∙ ap (λ t. at_expr (site s (binary at op a b)) f || t) (sym (among-append s (parts a) (parts b) f)))
      (laws.in_turn _ _ o q r (laws.in_turn _ _ o p q m n) k)

  pub pick_in : (at : ℕ) (c a b : Expr) (o p q r t : Option Fault) → Notes (in_expr s c) o p → Notes (in_expr s a) p q → Notes (in_expr s b) q r → Notes (at_expr (site s (pick at c a b))) r t → Notes (in_expr s (pick at c a b)) o t
  pick_in at c a b o p q r t m n k j =
      laws.alike _ (in_expr s (pick at c a b)) o t
      (λ f. or_turn ((in_expr s c f || in_expr s a f) || in_expr s b f) (at_expr (site s (pick at c a b)) f)
      ∙ ap (λ z. at_expr (site s (pick at c a b)) f || z)
      (sym (among-append s (parts c ++ parts a) (parts b) f ∙ ap (λ z. z || in_expr s b f) (among-append s (parts c) (parts a) f))))
      (laws.in_turn _ _ o r t (laws.in_turn _ _ o q r (laws.in_turn _ _ o p q m n) k) j)

  pub call_in : (at : ℕ) (g : Name) (es : List Expr) (o p q : Option Fault) → Notes (in_exprs s es) o p → Notes (at_expr (site s (call at g (exprs_of es)))) p q → Notes (in_expr s (call at g (exprs_of es))) o q
  call_in at g es o p q m n =
      laws.alike _ (in_expr s (call at g (exprs_of es))) o q
      (λ f. or_turn (in_exprs s es f) (at_expr (site s (call at g (exprs_of es))) f) ∙ ap (λ z. at_expr (site s (call at g (exprs_of es))) f || z) (sym (in_values s es f)))
      (laws.in_turn _ _ o p q m n)
