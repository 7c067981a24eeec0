-- Cited by the clauses of the laws of this crate and by those of code that makes candidates: a row for each list of values that
-- the applications of a goal have, and the tables of a query that is true.
use Rattle.std.specs.Prelude.{◌≡◌, ℕ, List, filter, Some}
use Rattle.std.specs.List.{AllZip}
use Rattle.cnf_core.specs.declared.certificates.Instance.{Instance}
use Rattle.cocoon_num.specs.Tree.{Design}
use Rattle.cocoon_num.specs.Values.{number}
use Rattle.cocoon_num.specs.declared.fun_table.FunRow.{FunRow}
use Rattle.cocoon_num.specs.declared.fun_table.FunTable.{FunTable}
use Rattle.bv_terms.specs.TermTrees.{IsTerm, Term}
use Rattle.bv_terms.specs.TermValues.{Functions, Inputs, term_value}
use Rattle.bv_terms.specs.Walks.{applications}
use Rattle.flat_laws.specs.Rows as flat
use Rattle.flat_laws.specs.Rows.{IsRowOf, is_of}
use Rattle.query_laws.specs.LeafTerms.{Stands}
use Rattle.runtime_defs.specs.FirstRows.{first_rows}
use Rattle.query_laws.specs.Certified.{AllFit}
use Rattle.query_laws.specs.OwnNames.{input_count}
use Rattle.query_laws.specs.Queries.{asked, query}
use Rattle.runtime_defs.specs.Fitting.{FitsDesign}
use Rattle.bv_terms.specs.WithRows.{Tables, table_of}

-- the distinct applications of the function of this number
abbrev pub applications_of : (f : ℕ) → (goal : Term) → List Term
applications_of f goal = filter (is_of f) (applications goal)

-- each table has, of the rows of its function's applications in order, the first with its values
pub record HaveFirstRows (none : Functions) (ins : Inputs) (goal : Term) (first : ℕ) (tables : Tables) : Type 0 where
  pub rows : ℕ → List FunRow
  pub are : (f : ℕ) (t : FunTable) → table_of tables f ≡ Some t → AllZip (IsRowOf none ins goal first) (applications_of f goal) (rows f)
  pub firsts : (f : ℕ) (t : FunTable) → table_of tables f ≡ Some t → t.rows ≡ first_rows (rows f)

-- The query of a formula with instances is true at these inputs, which fit what it asks; and the tables are of the design, with
-- the first rows of what it asks.
pub record AreOfTrueQuery (d : Design) (level : ℕ) (formula : Term) (instances : List Instance) (none : Functions) (ins : Inputs) (tables : Tables) : Type 0 where
  pub stands : Stands d 1 formula
  pub fit : AllFit d level instances
  pub term : IsTerm (asked d level formula instances)
  pub inputs : flat.AllFit (asked d level formula instances) (input_count formula) ins
  pub is_true : term_value none ins (query d level formula instances) ≡ number 1 1
  pub definitions : FitsDesign d tables
  pub rows : HaveFirstRows none ins (asked d level formula instances) (input_count formula) tables
