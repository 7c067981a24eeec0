-- Cited by the clauses of `Defs::hosts` and `Defs::switches`: the numbers of hosts and of switches, which are those at
-- which the guards' functions are true. It follows the section "Hosts" of docs/LANGUAGE.md.
use Rattle.std.specs.Prelude.{◌≡◌, ℕ, ◌==◌, ◌&&◌, Bool, true, false, List, [], ◌∷◌, flat_map, Option, Some, None, option_and_then}
use Rattle.cocoon_num.specs.FunTables.{looked}
use Rattle.cocoon_num.specs.Lists.{ascend, first_of, has_number}
use Rattle.cocoon_num.specs.Names.{named}
use Rattle.cocoon_num.specs.Tree.{DefsText, Design, FunctionDecl, Role}
use Rattle.cocoon_num.specs.Values.{fits_width, truth}
use Rattle.cocoon_num.specs.declared.fun_table.FunTable.{FunTable}
use Rattle.cocoon_resolve.specs.Resolved.{Resolves}
use Rattle.cocoon_types.specs.Design.{functions, widths_of}
use Rattle.cocoon_types.specs.DefsRules.{guard_call}
use Rattle.cocoon_types.specs.LastLevel.{of_host, switch_roles}
use Rattle.cocoon_types.specs.Tables.{defs_of, look_up}
use Rattle.declarations.specs.Declares.{function_number}
use Rattle.runtime_defs.specs.Bound.{IsBound}
use Rattle.runtime_defs.specs.Fitting.{FitsDesign}
use Rattle.runtime_defs.specs.Places.{Places, all_fit_widths, table_at}
use Rattle.runtime_defs.specs.Stands.{Stands}

-- ---- which function

-- the function of the guard of the host roles
abbrev pub host_function : Design → Option (List ℕ)
host_function d = first_of (of_host d (λ h e s. guard_call e.guard))

-- the function of the guards of the switch roles, which is that of the first
abbrev pub switch_function : Design → Option (List ℕ)
switch_function d = first_of (flat_map (λ (r : Role). guard_call r.guard) (switch_roles d))

-- the table of the function of a name
abbrev pub table_named : Design → Places → List ℕ → Option FunTable
table_named d places f = option_and_then (table_at places) (function_number d f)

-- the table of the hosts' function
abbrev pub host_table : Design → Places → Option FunTable
host_table d places = option_and_then (table_named d places) (host_function d)

-- that of the switches' function
abbrev pub switch_table : Design → Places → Option FunTable
switch_table d places = option_and_then (table_named d places) (switch_function d)

-- ---- the numbers

-- the number fits the table, and the first row that matches it is true
abbrev pub is_true_at : Option FunTable → ℕ → Bool
is_true_at None n = false
is_true_at (Some t) n = all_fit_widths t.widths (n ∷ []) && ((looked t (n ∷ [])).value == 1)

-- the numbers of so many bits at which the table is true, ascending, each once
pub record ListsTrue (bits : ℕ) (t : Option FunTable) (ns : List ℕ) : Type 0 where
  pub ascending : ascend ns ≡ true
  pub listed : (n : ℕ) → has_number n ns ≡ (fits_width bits n && is_true_at t n)

-- ---- by the definitions of a text

-- the numbers fit the parameters of the function of this name
abbrev pub fits_params : Design → List ℕ → List ℕ → Bool
fits_params d f ns = elim (named (λ (x : FunctionDecl). x.name) f (functions d)) [
  | None ↦ false
  | Some x ↦ all_fit_widths (widths_of x.params) ns
]

-- the numbers of so many bits at which the definitions of a text give `true` for this function
pub record ListsDefined (d : Design) (es : DefsText) (bits : ℕ) (f : List ℕ) (ns : List ℕ) : Type 0 where
  pub only : (n : ℕ) → has_number n ns ≡ true → (fits_params d f (n ∷ []) ≡ true) × (look_up (defs_of d es) f (n ∷ []) ≡ Some (truth true))
  pub all : (n : ℕ) → fits_width bits n ≡ true → fits_params d f (n ∷ []) ≡ true → look_up (defs_of d es) f (n ∷ []) ≡ Some (truth true) → has_number n ns ≡ true

-- What is listed of tables that were bound is what the definitions of the text say.
pub record ListedAreDefined : Type 0 where
  pub hosts : (d : Design) (es : DefsText) (places : Places) (ns f : List ℕ)
      → Resolves d → IsBound d es places → FitsDesign d places → Stands d places (defs_of d es)
      → ListsTrue 64 (host_table d places) ns → host_function d ≡ Some f → ListsDefined d es 64 f ns
  pub switches : (d : Design) (es : DefsText) (places : Places) (ns f : List ℕ)
      → Resolves d → IsBound d es places → FitsDesign d places → Stands d places (defs_of d es)
      → ListsTrue 16 (switch_table d places) ns → switch_function d ≡ Some f → ListsDefined d es 16 f ns
