-- Cited by private clauses: what a scope has of a text, and of where a statement stands.
use Rattle.std.specs.Prelude.{◌≡◌, ℕ, ◌<◌, ◌^◌, true, List, [], ◌∷◌, length, map}
use Rattle.cocoon_num.specs.Lists.{each}
use Rattle.p4_ir.specs.P4Kinds.{Within}
use Rattle.p4_ir.specs.Program.{field_of, header_of}
use Rattle.p4_kinds.specs.Seen.{HasNumbers}
use Rattle.p4_texts.specs.Meant.{names_of}
use Rattle.p4_texts.specs.Written.{HeaderText, MemberText, ProgramText}
use Rattle.numbering.specs.NameNumbers.{Numbers}
use Rattle.p4_resolve.specs.Numbered.{is_small}
use Rattle.numbering.specs.declared.name_table.NameTable.{NameTable}
use Rattle.p4_resolve.specs.declared.scope.Scope.{Scope}

abbrev pub member_names : List MemberText → List (List ℕ)
member_names ms = map (λ (m : MemberText). m.name) ms

-- the names of the fields of each header
abbrev pub EachNumbers : List NameTable → List HeaderText → Type 0
EachNumbers [] [] = Unit {0}
EachNumbers [] (h ∷ hs) = ⊥
EachNumbers (n ∷ ns) [] = ⊥
EachNumbers (n ∷ ns) (h ∷ hs) = Numbers n (names_of h.fields) × EachNumbers ns hs

-- no header has so many fields that a number is wanting
abbrev pub EachFew : List HeaderText → Type 0
EachFew [] = Unit {0}
EachFew (h ∷ hs) = (length h.fields < 2 ^ 32) × EachFew hs

pub record Knows (s : Scope) (t : ProgramText) (c : Within) : Type 0 where
  pub program_headers : map header_of s.program.headers ≡ c.program.headers
  pub program_meta : map field_of s.program.meta ≡ c.program.meta
  pub in_ingress : s.in_ingress ≡ c.in_ingress
  pub meta : Numbers s.meta (names_of t.rest.meta)
  pub headers : Numbers s.headers (member_names t.rest.members)
  pub fields : EachNumbers s.fields.items t.headers
  pub tables : HasNumbers s.tables.keys c.tables
  pub small : each is_small c.tables ≡ true
