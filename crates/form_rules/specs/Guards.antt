-- Private clauses cite it: the forms of guards, each as the code tests it.
use Rattle.std.specs.Prelude.{ℕ, ◌&&◌, ◌||◌, Bool, not, List, [], ◌∷◌, ◌++◌, Option, Some, None}
use Rattle.cocoon_num.specs.Values.{less, and_}
use Rattle.cocoon_num.specs.Tree.{Expr, name, lit, call, binary, expr, no_exprs, Param, Role, Design, token_index}
use Rattle.cocoon_num.specs.Names.{same_name}
use Rattle.cocoon_types.specs.Design.{switch_decl}
use Rattle.cocoon_types.specs.LastLevel.{called, of_host}
use Rattle.cocoon_types.specs.RuleParts.{unless, roles_of}
use Rattle.cocoon_types.specs.FormRules.{host_guard, switch_guard, guard_function, guards_by, declared_as, switch_declared}
use Rattle.form_rules.specs.declared.guards.Form.{Form}
use Rattle.form_rules.specs.declared.guards.Form.TheVariants.{Host, Switch}

-- whether a guard is of a form
abbrev pub fits_by : Design → Form → List Param → Expr → Bool
fits_by d Host = host_guard d
fits_by d (Switch ports) = switch_guard d ports

-- the function of a guard of the form
abbrev pub function_by : Form → Expr → List ℕ
function_by Host = called
function_by (Switch ports) = guard_function

-- f(x)
abbrev pub call_of : (function variable : List ℕ) → Expr
call_of f x = call 0 (record { at = 0; text = f }) (expr (name 0 x) no_exprs)

-- x < 16wN
abbrev pub port_test : (variable : List ℕ) → (ports : ℕ) → Expr
port_test x ports = binary 0 less (name 0 x) (lit 0 16 ports)

-- f(s) and p < 16wN
abbrev pub switch_test : (function : List ℕ) → (switch port : Param) → (ports : ℕ) → Expr
switch_test f s p ports = binary 0 and_ (call_of f s.name.text) (port_test p.name.text ports)

-- the parameter, where there is one
abbrev pub only_param : List Param → Option Param
only_param (p ∷ []) = Some p
only_param _ = None

-- the parameters, where there are two
abbrev pub param_pair : List Param → Option (Param × Param)
param_pair (p ∷ q ∷ []) = Some (p, q)
param_pair _ = None

-- a role's guard is of the form, and by the function of the first one's if that is of the form
abbrev pub fits_first : Design → Form → Role → Role → Bool
fits_first d form first r =
    fits_by d form r.params r.guard
    && (not (fits_by d form first.params first.guard)
    || same_name (function_by form first.guard) (function_by form r.guard))

-- a guard that is not so
abbrev pub other_guard : Design → Form → Role → Role → List ℕ
other_guard d form first r = unless (fits_first d form first r) (token_index r.guard)

-- the guards of the host roles that are not so
abbrev pub host_guards : Design → List ℕ
host_guards d = of_host d (λ h e s.
    guards_by (host_guard d) called
    (declared_as h.entry.text (roles_of d) ++ declared_as h.sink.text (roles_of d)))

-- those of the switch roles
abbrev pub switch_guards : Design → List ℕ
switch_guards d = elim (switch_decl d) [
  | None ↦ []
  | Some s ↦ guards_by (switch_guard d s.ports) guard_function (switch_declared d)
]
