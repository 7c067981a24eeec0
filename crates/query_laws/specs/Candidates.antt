-- Cited by the clauses of the laws of this crate and by those of code that decides in rounds: definitions under which a formula
-- is true, with what was taken of the assumptions.
use Rattle.std.specs.Prelude.{◌≡◌, ℕ, ◌≤◌, List, ◌∷◌, All, length, Some}
use Rattle.std.specs.List.{AllByRecursion}
use Rattle.cnf_core.specs.declared.certificates.Instance.{Instance}
use Rattle.cocoon_num.specs.Tree.{Design}
use Rattle.cocoon_num.specs.Values.{number}
use Rattle.cocoon_num.specs.declared.fun_table.FunRow.{FunRow}
use Rattle.cocoon_num.specs.declared.fun_table.FunTable.{FunTable}
use Rattle.bv_terms.specs.Inputs.{InputsFit}
use Rattle.bv_terms.specs.TermTrees.{Term}
use Rattle.bv_terms.specs.TermValues.{Functions, Inputs, term_value}
use Rattle.query_laws.specs.Tuples.{pattern_terms}
use Rattle.query_laws.specs.OwnNames.{in_own_arena}
use Rattle.query_laws.specs.Queries.{asked, instance_term}
use Rattle.runtime_defs.specs.Fitting.{FitsDesign, all_ones}
use Rattle.bv_terms.specs.ByTables.{by_tables}
use Rattle.bv_terms.specs.WithRows.{Tables, table_of}
use Rattle.query_laws.specs.FirstRows.{applications_of}

-- ---- truth under tables

-- what the tables give; a function without a table gives 0
abbrev pub given : Tables → Functions
given tables = by_tables tables (λ f xs. 0)

abbrev pub IsTrueAt : Tables → Inputs → Term → Type 0
IsTrueAt tables ins t = term_value (given tables) ins t ≡ number 1 1

-- whatever the inputs: an instance has none
abbrev pub IsTrueBy : Tables → Term → Type 0
IsTrueBy tables t = (ins : Inputs) → IsTrueAt tables ins t

abbrev pub IsFalseBy : Tables → Term → Type 0
IsFalseBy tables t = (ins : Inputs) → term_value (given tables) ins t ≡ number 1 0

-- these numbers fit the inputs of the term, and it is true at them
pub record MakeTrue (tables : Tables) (ins : Inputs) (t : Term) : Type 0 where
  pub fit : InputsFit t ins
  pub is_true : IsTrueAt tables ins t

-- ---- candidates

-- at some inputs the formula is true, and all that it takes of the assumptions by their patterns
pub record CanBeTrue (d : Design) (level : ℕ) (formula : Term) (tables : Tables) : Type 0 where
  pub inputs : Inputs
  pub fit : InputsFit (in_own_arena formula) inputs
  pub all : AllByRecursion (IsTrueAt tables inputs) (in_own_arena formula ∷ pattern_terms d level (in_own_arena formula))

-- each row compares all bits
abbrev pub HasLiteralRows : FunTable → Type 0
HasLiteralRows t = All (λ (row : FunRow). row.masks ≡ all_ones t.widths) t.rows

-- the rows are as many as the function has applications in what is asked, or fewer
abbrev pub IsShort : Design → (level : ℕ) → (formula : Term) → List Instance → (f : ℕ) → FunTable → Type 0
IsShort d level formula instances f t = length t.rows ≤ length (applications_of f (asked d level formula instances))

-- definitions of the design under which the formula can be true and each of the instances is
pub record IsCandidate (d : Design) (level : ℕ) (formula : Term) (instances : List Instance) (tables : Tables) : Type 0 where
  pub definitions : FitsDesign d tables
  pub formula_ : CanBeTrue d level formula tables
  pub instances_ : AllByRecursion (λ i. IsTrueBy tables (instance_term d i)) instances
  pub literal : (f : ℕ) (t : FunTable) → table_of tables f ≡ Some t → HasLiteralRows t
  pub short : (f : ℕ) (t : FunTable) → table_of tables f ≡ Some t → IsShort d level formula instances f t
