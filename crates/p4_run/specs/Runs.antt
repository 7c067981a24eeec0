-- Cited by what loading keeps, and by the private clauses of visits: resolved statements leave what the control leaves, in
-- all registers that fit. The facts are equations, which have one proof each, so that a loaded program can hold them.
use Rattle.std.specs.Prelude.{◌≡◌, ℕ, ◌&&◌, Bool, true, List, [], ◌∷◌, length, map, option_map, slice_get, slice_set, Some}
use Rattle.row_search.specs.Keyed.{keyed}
use Rattle.numbering.specs.NumberPlaces.{HasPlaces, place_in, place_of}
use Rattle.numbering.specs.declared.number_table.NumberTable.{NumberTable}
use Rattle.packed_fields.specs.AtOnce.{widths_in}
use Rattle.p4_ir.specs.Loading.{all_tables, table_numbers, table_rows_fit}
use Rattle.p4_ir.specs.P4Kinds.{numbers_of}
use Rattle.p4_ir.specs.P4Tree.{field_widths, Group, P4Table, Program, program_layout, TableRows}
use Rattle.p4_ir.specs.Switch.{p4_run_all, State, state_of, table_numbered, table_result}
use Rattle.p4_run.specs.Held.{Held}
use Rattle.p4_run.specs.Controls.{control_in, running_in}
use Rattle.p4_run.specs.RegisterStates.{state_at, Suits}
use Rattle.p4_run.specs.Effects.{applied_to, left, Effect}
use Rattle.p4_run.specs.declared.stmt_codes.Application.{Application}
use Rattle.p4_run.specs.States.{fields_fit}
use Rattle.p4_run.specs.declared.places.TablePlaces.{TablePlaces}

-- ---- tables

-- the rows fit the table that they are of
abbrev pub own_rows_fit : Program → TableRows → Bool
own_rows_fit p r = table_rows_fit p (table_numbered (all_tables p) r.number) r

-- the table that the rows are of is applied so
abbrev pub IsApplied : Program → TableRows → Application → Type 0
IsApplied p r a =
    (t : P4Table) → table_numbered (all_tables p) r.number ≡ Some t → (meta : List ℕ) → length meta ≡ length p.meta
    → applied_to a meta ≡ slice_set meta t.result (table_result r.rows r.otherwise (keyed meta t.keys))

-- one for the rows of each table
pub record AreApplied (p : Program) (rows : List TableRows) (tables : List Application) : Type 0 where
  pub many : length tables ≡ length rows
  pub each_is : (i : ℕ) (r : TableRows) (a : Application) → slice_get rows i ≡ Some r → slice_get tables i ≡ Some a → IsApplied p r a

-- ---- statements

-- a state as lists of numbers
abbrev pub listed : State → List (List ℕ)
listed s = (s.verdict ∷ s.egress_port ∷ s.group ∷ []) ∷ s.meta ∷ s.packet

-- what is held fits a program
abbrev pub held_fits : Program → Held → Bool
held_fits p h = fields_fit (widths_in (program_layout p)) h.fields && fields_fit (field_widths p.meta) h.meta

abbrev pub Runs : Program → List TableRows → Bool → List Application → Effect → Type 0
Runs p rows in_ingress tables f =
    (h : Held) → Suits p in_ingress h
    → (option_map (λ o. listed (state_of o)) (p4_run_all (running_in p rows in_ingress h.own) (control_in p in_ingress).body (state_at (program_layout p) h))
    ≡ Some (listed (state_at (program_layout p) (left (f tables h)))))
    × (held_fits p (left (f tables h)) ≡ true)

-- ---- places

-- each number has the place of the first table that it is of: among those of a program, and among those that are given rows
pub record PlacesTables (p : Program) (given : List TableRows) (places : TablePlaces) : Type 0 where
  pub tables : HasPlaces places.tables (numbers_of (all_tables p))
  pub rows : HasPlaces places.rows (table_numbers given)

-- each number has the place of the first group that it is of, or that behind all groups
abbrev pub ArePlaced : NumberTable → List Group → Type 0
ArePlaced places groups = (n : ℕ) → place_in places n ≡ place_of (map (λ (g : Group). g.number) groups) n
