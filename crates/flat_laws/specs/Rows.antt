-- Cited by the clauses of the law that a flat goal has tables: rows for the applications of a goal.
use Rattle.std.specs.Prelude.{◌≡◌, ℕ, ◌+◌, ◌-◌, ◌^◌, ◌==◌, Bool, false, List, map, filter, Some}
use Rattle.std.specs.List.{AllZip}
use Rattle.cocoon_num.specs.Values.{FitsWidth}
use Rattle.cocoon_num.specs.declared.fun_table.FunRow.{FunRow}
use Rattle.cocoon_num.specs.declared.fun_table.FunTable.{FunTable}
use Rattle.bv_terms.specs.Inputs.{Applies, InputsFit}
use Rattle.bv_terms.specs.TermTrees.{Term, Args, apply, arg_widths}
use Rattle.bv_terms.specs.TermValues.{Functions, Inputs, arg_numbers}
use Rattle.bv_terms.specs.Walks.{applications}
use Rattle.bv_terms.specs.WithRows.{Tables, table_of}
use Rattle.flat_laws.specs.Flat.{args_in, place_in, reduced_args}

abbrev pub is_of : (f : ℕ) → Term → Bool
is_of f (apply g args w) = f == g
is_of f _ = false

-- the number of the input that stands for an application of the goal
abbrev pub result_input : (goal : Term) (first : ℕ) → Term → ℕ
result_input goal first t = first + place_in (applications goal) t

-- the values of its arguments as they are in the flat goal, which has no functions
abbrev pub argument_values : Functions → Inputs → (goal : Term) (first : ℕ) → Term → List ℕ
argument_values none ins goal first t = arg_numbers none ins (reduced_args (applications goal) first (args_in t))

-- the row of an application: all bits of these values give the value of its input
pub record IsRowOf (none : Functions) (ins : Inputs) (goal : Term) (first : ℕ) (t : Term) (row : FunRow) : Type 0 where
  pub values : row.values ≡ argument_values none ins goal first t
  pub masks : row.masks ≡ map (λ w. 2 ^ w - 1) (arg_widths (args_in t))
  pub result : row.result.value ≡ ins (result_input goal first t)

-- the function has a table with a row for each of its applications, in order; its default is any
pub record HasRowsFor (none : Functions) (ins : Inputs) (goal : Term) (first : ℕ) (tables : Tables) (f : ℕ) : Type 0 where
  pub table : FunTable
  pub is_there : table_of tables f ≡ Some table
  pub rows : AllZip (IsRowOf none ins goal first) (filter (is_of f) (applications goal)) table.rows

-- so it is with each function that the goal applies
abbrev pub HasRows : Functions → Inputs → (goal : Term) (first : ℕ) → Tables → Type 0
HasRows none ins goal first tables =
    (f w : ℕ) (args : Args) → Applies goal f args w → HasRowsFor none ins goal first tables f

-- the inputs of the goal fit, and so do the new ones
pub record AllFit (goal : Term) (first : ℕ) (ins : Inputs) : Type 0 where
  pub inputs : InputsFit goal ins
  pub results : (f w : ℕ) (args : Args) → Applies goal f args w
      → FitsWidth w (ins (result_input goal first (apply f args w)))
