-- Cited by the clauses of resolving, and by what p4_run keeps: resolved statements do what statements of the definitions do.
use Rattle.std.specs.Prelude.{All, ◌≡◌, ℕ, ◌<◌, ◌^◌, Bool, true, List, [], ◌∷◌, length, Some, slice_set}
use Rattle.cocoon_num.specs.Lists.{has_number}
use Rattle.cocoon_num.specs.Packets.{Layout}
use Rattle.row_search.specs.Keyed.{keyed}
use Rattle.numbering.specs.NumberPlaces.{place_of}
use Rattle.p4_ir.specs.Loading.{table_numbers}
use Rattle.p4_ir.specs.P4Kinds.{numbers_of}
use Rattle.p4_ir.specs.P4Tree.{meta_width, P4Block, P4Stmt, P4Table, Program, program_layout, TableRows}
use Rattle.p4_ir.specs.Switch.{Outcome, p4_run, p4_run_all, proceeds, returned, rows_numbered, table_numbered, table_result}
use Rattle.p4_run.specs.Held.{Held}
use Rattle.p4_run.specs.Controls.{control_in, running_in}
use Rattle.p4_run.specs.RegisterStates.{state_at, Suits}
use Rattle.p4_run.specs.Effects.{applied_at, Effect, ended, goes_on, left, Ran}
use Rattle.p4_run.specs.declared.stmt_codes.Application.{Application}

-- ---- tables

-- the table of a number, with its rows, is there, and fits the program; at the place of its rows it is applied
pub record IsTable (p : Program) (rows : List TableRows) (in_ingress : Bool) (tables : List Application) (n : ℕ) (t : P4Table) (r : TableRows) : Type 0 where
  pub table : table_numbered (control_in p in_ingress).tables n ≡ Some t
  pub rows_are : rows_numbered rows n ≡ Some r
  pub keys : All (λ i. i < length p.meta) t.keys
  pub small : (xs : List ℕ) → table_result r.rows r.otherwise xs < 2 ^ meta_width p t.result
  pub applies : (meta : List ℕ) → length meta ≡ length p.meta
      → applied_at tables (place_of (table_numbers rows) n) meta ≡ slice_set meta t.result (table_result r.rows r.otherwise (keyed meta t.keys))

-- so it is with each table of a control
abbrev pub AreTables : Program → List TableRows → Bool → List Application → Type 0
AreTables p rows in_ingress tables =
    (n : ℕ) → has_number n (numbers_of (control_in p in_ingress).tables) ≡ true → (t : P4Table) × (r : TableRows) × IsTable p rows in_ingress tables n t r

-- ---- statements

abbrev pub outcome_at : Layout → Ran → Outcome
outcome_at layout (goes_on h) = proceeds (state_at layout h)
outcome_at layout (ended h) = returned (state_at layout h)

-- what is held fits as before, for the same number
pub record Keeps (p : Program) (in_ingress : Bool) (h : Held) (o : Ran) : Type 0 where
  pub suits : Suits p in_ingress (left o)
  pub own : (left o).own ≡ h.own

pub record Does (p : Program) (rows : List TableRows) (in_ingress : Bool) (tables : List Application) (s : P4Stmt) (f : Effect) : Type 0 where
  pub outcome : (h : Held) → Suits p in_ingress h
      → p4_run (running_in p rows in_ingress h.own) s (state_at (program_layout p) h) ≡ Some (outcome_at (program_layout p) (f tables h))
  pub keeps : (h : Held) → Suits p in_ingress h → Keeps p in_ingress h (f tables h)

pub record DoesAll (p : Program) (rows : List TableRows) (in_ingress : Bool) (tables : List Application) (block : P4Block) (f : Effect) : Type 0 where
  pub outcome : (h : Held) → Suits p in_ingress h
      → p4_run_all (running_in p rows in_ingress h.own) block (state_at (program_layout p) h) ≡ Some (outcome_at (program_layout p) (f tables h))
  pub keeps : (h : Held) → Suits p in_ingress h → Keeps p in_ingress h (f tables h)

-- each does what the statement at its place does
abbrev pub EachDoes : Program → List TableRows → Bool → List Application → List P4Stmt → List Effect → Type 0
EachDoes p rows in_ingress tables [] [] = Unit {0}
EachDoes p rows in_ingress tables (s ∷ ss) (f ∷ fs) = Does p rows in_ingress tables s f × EachDoes p rows in_ingress tables ss fs
EachDoes p rows in_ingress tables _ _ = ⊥
