-- Names that are resolved, and what steps do by their places.
use Rattle.std.specs.Prelude.{◌≡◌, ℕ, ◌&&◌, ◌||◌, Bool, not, List, [], ◌++◌, get_or, set, Option, Some, None, refl}
use Rattle.std.specs.List.{list_any}
use Rattle.std.proofs.Common.{sym, ◌∙◌, ap, ap₂}
use Rattle.cocoon_num.specs.Tree.{Name, Expr, Exprs}
use Rattle.form_rules.specs.declared.state.Held.{Held}
use Rattle.form_rules.specs.declared.steps.Value.{Value}
use Rattle.form_rules.specs.Following as follow
use Rattle.form_rules.specs.Following.{Names, Holding, at_choice, latest, first_field, var_held, unbound, nothing, held, hides, meets, chooses, made_at, with_field, with_var}
use Rattle.form_rules.specs.Steps as steps
use Rattle.form_rules.specs.Steps.{hides_in, moved_by, value_held, with_field_at, any_within}
use Rattle.form_rules.specs.Places.{ValueOf, ValuesOf}

pub name_unbound : (n : Names) (s : Holding) (at : ℕ) (x : List ℕ) → latest n.vars x ≡ None → var_held n s at x ≡ unbound n at x
name_unbound n s at x none = ap (λ (o : Option ℕ). elim o as (λ p. Held) [ None ↦ unbound n at x | Some i ↦ get_or s.vars i nothing ]) none

pub meets_as : (n : Names) (e : Expr) (v : Value) → ValueOf n e v → (c : ℕ) (q : Holding) → steps.meets c v q ≡ meets (at_choice c n) e q
meets_as n e v of c q = ap (λ (h : Held). record q { met = h.within || q.met }) (of c q)

pub binds_as : (n : Names) (e : Expr) (v : Value) → ValueOf n e v → (c : ℕ) (q : Holding) → with_var (value_held c q v) q ≡ with_var (held (at_choice c n) q e) q
binds_as n e v of c q = ap (λ (h : Held). with_var h q) (of c q)

pub field_as : (n : Names) (h f : Name) (i : Option ℕ) → i ≡ first_field n.fields h.text f.text → (c : ℕ) (v : Held) (q : Holding) → with_field_at i v q ≡ with_field (at_choice c n) h f v q
field_as n h f i is c v q = ap (λ (o : Option ℕ). with_field_at o v q) is

pub sets_as : (n : Names) (h f : Name) (e : Expr) (i : Option ℕ) (v : Value) → i ≡ first_field n.fields h.text f.text → ValueOf n e v → (c : ℕ) (q : Holding) → with_field_at i (value_held c q v) q ≡ with_field (at_choice c n) h f (held (at_choice c n) q e) q
sets_as n h f e i v is of c q = ap (λ (g : Held). with_field_at i g q) (of c q) ∙ field_as n h f i is c (held (at_choice c n) q e) q

pub hides_as : (n : Names) (es : Exprs) (v : Value) → ValuesOf n es v → (c : ℕ) (s : Holding) → hides_in c v s ≡ hides (at_choice c n) es s
hides_as n es v of c s =
    ap₂ (λ (a b : Bool). s.made && (s.met || (a || list_any (λ (h : Held). h.within) s.fields)) && not (b || list_any (λ (h : Held). h.alone) s.fields)) (of c s).0 (of c s).1
