-- Cited by private clauses: the tables of functions, one by one.
use Rattle.std.specs.Prelude.{◌≡◌, ℕ, suc, ◌≤◌, All, true, false, List, [], ◌∷◌, is_some, Option, Some, None}
use Rattle.cocoon_num.specs.Lists.{is_one_of}
use Rattle.cocoon_num.specs.Tree.{FunctionDecl, Design}
use Rattle.cocoon_num.specs.Values.{truth}
use Rattle.cocoon_num.specs.declared.fun_table.FunTable.{FunTable}
use Rattle.cocoon_types.specs.Design.{widths_of}
use Rattle.runtime_defs.specs.Printable.{literal_functions, result_width}
use Rattle.runtime_defs.specs.EntryPlaces.{result_value}
use Rattle.runtime_defs.specs.Places.{AllDeclared}
use Rattle.runtime_defs.specs.FirstRows.{first_rows}
use Rattle.runtime_defs.specs.LookupRows.{rows_for}
use Rattle.runtime_defs.specs.declared.lookups.Lookup.{Lookup}

-- a number of so many bits may be declared
abbrev pub IsWidth : ℕ → Type 0
IsWidth w = (1 ≤ w) × (w ≤ 64)

-- so it is with those of a function
pub record HasWidths (f : FunctionDecl) : Type 0 where
  pub each_ : All IsWidth (widths_of f.params)
  pub params : AllDeclared (widths_of f.params)
  pub result : IsWidth (result_width f.result)

-- the table of the function of this number
pub record IsTable (d : Design) (lookups : List Lookup) (n : ℕ) (f : FunctionDecl) (t : FunTable) : Type 0 where
  pub widths : t.widths ≡ widths_of f.params
  pub rows : t.rows ≡ first_rows (rows_for t.widths n lookups)
  pub default_width : t.default.width ≡ result_width f.result
  pub default_false : is_one_of (literal_functions d) f.name.text ≡ true → result_value f.result t.default ≡ truth false

-- what stands at its place: nothing where it has a body
abbrev pub IsPlace : Design → List Lookup → (n : ℕ) → FunctionDecl → Option FunTable → Type 0
IsPlace d lookups n f None = is_some f.body ≡ true
IsPlace d lookups n f (Some t) = (f.body ≡ None) × IsTable d lookups n f t

-- so it is at each place, from this number on
abbrev pub ArePlaces : Design → List Lookup → (n : ℕ) → List FunctionDecl → List (Option FunTable) → Type 0
ArePlaces d lookups n [] [] = Unit {0}
ArePlaces d lookups n (f ∷ fs) (o ∷ os) = IsPlace d lookups n f o × ArePlaces d lookups (suc n) fs os
ArePlaces d lookups n _ _ = ⊥
