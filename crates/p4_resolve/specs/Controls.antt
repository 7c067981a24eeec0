-- Cited by private clauses: what is known of tables and controls, after the tables before them.
use Rattle.std.specs.Prelude.{◌≡◌, ℕ, Bool, true, List, ◌++◌, map}
use Rattle.cocoon_num.specs.Lists.{each}
use Rattle.p4_ir.specs.P4Kinds.{numbers_of}
use Rattle.p4_ir.specs.P4Tree.{Control, P4Table}
use Rattle.p4_ir.specs.Program.{field_of, header_of}
use Rattle.p4_texts.specs.KindFaults.{control_pieces, least_after, table_pieces}
use Rattle.p4_texts.specs.Meant.{control_meant, header_meant, meta_meant, names_of, table_meant}
use Rattle.p4_texts.specs.Written.{ControlText, ProgramText, TableText}
use Rattle.p4_resolve.specs.Judged.{Passes, Sees}
use Rattle.p4_resolve.specs.Numbered.{is_small}
use Rattle.numbering.specs.NameNumbers.{Numbers}
use Rattle.p4_resolve.specs.Scopes.{EachNumbers, member_names}
use Rattle.p4_resolve.specs.declared.controls.Before.{Before}
use Rattle.p4_resolve.specs.declared.scope.Scope.{Scope}

-- the scope has the declarations of a text
pub record KnowsText (s : Scope) (t : ProgramText) : Type 0 where
  pub program_headers : map header_of s.program.headers ≡ map header_meant t.headers
  pub program_meta : map field_of s.program.meta ≡ map meta_meant t.rest.meta
  pub meta : Numbers s.meta (names_of t.rest.meta)
  pub headers : Numbers s.headers (member_names t.rest.members)
  pub fields : EachNumbers s.fields.items t.headers

abbrev pub action_names : List TableText → List (List ℕ)
action_names ks = map (λ (k : TableText). k.action) ks

abbrev pub table_numbers : ProgramText → List TableText → List ℕ
table_numbers t ks = numbers_of (map (table_meant t) ks)

-- these tables were declared before
pub record IsBefore (b : Before) (t : ProgramText) (ks : List TableText) : Type 0 where
  pub actions : Sees b.actions.keys (action_names ks)
  pub least : b.least ≡ least_after (table_numbers t ks)

-- tables after others
pub record TablesKeep (t : ProgramText) (done ks : List TableText) (at : ℕ) (made : List P4Table) (b : Before) (end : ℕ) : Type 0 where
  pub is : made ≡ map (table_meant t) ks
  pub passes : Passes at (table_pieces t (action_names done) (table_numbers t done) ks) end
  pub before : IsBefore b t (done ++ ks)
  pub small : each is_small (numbers_of made) ≡ true

-- a control after the tables of others
pub record ControlKeeps (t : ProgramText) (done : List TableText) (in_ingress : Bool) (begin : List ℕ) (c : ControlText) (at : ℕ) (made : Control) (b : Before) (end : ℕ) : Type 0 where
  pub is : made ≡ control_meant t c
  pub passes : Passes at (control_pieces t done in_ingress begin c) end
  pub before : IsBefore b t (done ++ c.tables)
