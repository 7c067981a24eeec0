-- The forms of guards, by the number of parameters and by the first guard.
use Rattle.std.proofs.Common.{◌≡◌, ℕ, false, List, [], ◌∷◌, ◌++◌, Option, Some, None, refl, ap, ◌∙◌}
use Rattle.std.specs.Prelude.{flat_map}
use Rattle.cocoon_num.specs.Tree.{Expr, Param, Role, SwitchDecl, Design}
use Rattle.cocoon_num.specs.Lists.{first_of}
use Rattle.cocoon_types.specs.Design.{switch_decl}
use Rattle.cocoon_types.specs.FormRules.{host_guard, switch_guard, guard_function, guards_by, declared_as, switch_declared}
use Rattle.cocoon_types.specs.RuleParts.{roles_of}
use Rattle.form_rules.specs.declared.guards.Form.{Form}
use Rattle.form_rules.specs.Guards.{fits_by, function_by, only_param, param_pair, other_guard, switch_guards}
use Rattle.form_rules.proofs.RoleLists.{switch_some}

-- ---- parameters

pub one_param : (d : Design) (e : Expr) (ps : List Param) → elim (only_param ps) [ None ↦ false | Some p ↦ host_guard d (p ∷ []) e ] ≡ host_guard d ps e
one_param d e [] = refl
one_param d e (p ∷ []) = refl
one_param d e (p ∷ q ∷ ps) = refl

pub two_params : (d : Design) (ports : ℕ) (e : Expr) (ps : List Param) → elim (param_pair ps) [ None ↦ false | Some t ↦ switch_guard d ports (t.0 ∷ t.1 ∷ []) e ] ≡ switch_guard d ports ps e
two_params d ports e [] = refl
two_params d ports e (p ∷ []) = refl
two_params d ports e (p ∷ q ∷ []) = refl
two_params d ports e (p ∷ q ∷ r ∷ ps) = refl

-- ---- guards

pub guards_none : (d : Design) (form : Form) (rs : List Role) → None ≡ first_of rs → [] ≡ guards_by (fits_by d form) (function_by form) rs
guards_none d form [] h = refl
guards_none d form (r ∷ rs) h = absurd cc

pub guards_some : (d : Design) (form : Form) (rs : List Role) (first : Role) → Some first ≡ first_of rs → flat_map (other_guard d form first) rs ≡ guards_by (fits_by d form) (function_by form) rs
guards_some d form [] first h = absurd cc
guards_some d form (r ∷ rs) first h = ap (λ x. flat_map (other_guard d form x) (r ∷ rs)) same
  where
    same : first ≡ r
    same = cc

pub switch_guards_some : (d : Design) (s : SwitchDecl) → Some s ≡ switch_decl d
    → guards_by (switch_guard d s.ports) guard_function (declared_as s.into.text (roles_of d) ++ declared_as s.out.text (roles_of d)) ≡ switch_guards d
switch_guards_some d s h =
    ap (guards_by (switch_guard d s.ports) guard_function) (switch_some d s h)
    ∙ ap (λ (o : Option SwitchDecl). elim o [ None ↦ [] | Some x ↦ guards_by (switch_guard d x.ports) guard_function (switch_declared d) ]) h

pub switch_guards_none : (d : Design) → None ≡ switch_decl d → [] ≡ switch_guards d
switch_guards_none d h = ap (λ (o : Option SwitchDecl). elim o [ None ↦ [] | Some x ↦ guards_by (switch_guard d x.ports) guard_function (switch_declared d) ]) h
