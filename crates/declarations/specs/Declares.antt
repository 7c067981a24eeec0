-- Cited by the clauses of the tables and their readers: what the tables hold of a design.
use Rattle.std.specs.Prelude.{◌≡◌, ℕ, ◌==◌, nat_le, false, List, [], ◌∷◌, ◌++◌, map, length, Option, Some, None, option_map, option_and_then, if◌then◌else◌, slice_get, Vec}
use Rattle.std.specs.Option.{option_or, option_map_or}
use Rattle.std.specs.List.{AllZip}
use Rattle.std.specs.declared.alloc.Global.{Global}
use Rattle.cocoon_num.specs.Tree.{Param, FunctionDecl, Role, Decl, HeaderDecl, Design}
use Rattle.cocoon_num.specs.Names.{same_name}
use Rattle.cocoon_num.specs.Lists.{first_of}
use Rattle.cocoon_types.specs.Design.{as_function, as_role, as_host, as_switch, functions}
use Rattle.cocoon_types.specs.RuleParts.{roles_of}
use Rattle.numbering.specs.declared.name_table.NameTable.{NameTable}
use Rattle.declarations.specs.declared.header_table.HeaderTable.{HeaderTable}
use Rattle.declarations.specs.declared.function_table.FunctionTable.{FunctionTable}
use Rattle.declarations.specs.declared.role_table.RoleTable.{RoleTable}
use Rattle.declarations.specs.declared.decl_table.DeclTable.{DeclTable}
use Rattle.declarations.specs.declared.tables.Declarations.{Declarations}
use Rattle.declarations.specs.declared.place.Place.{Place}
use Rattle.numbering.specs.NameNumbers.{index_of, firsts, Numbers, number_of}
use Rattle.declarations.specs.Places.{Placed, decl_at, placed, places_by, decls_by}

-- ---- names

abbrev pub field_texts : List Param → List (List ℕ)
field_texts ps = map (λ (p : Param). p.name.text) ps

abbrev pub header_texts : List HeaderDecl → List (List ℕ)
header_texts hs = map (λ (h : HeaderDecl). h.name.text) hs

abbrev pub function_texts : List FunctionDecl → List (List ℕ)
function_texts fs = map (λ (f : FunctionDecl). f.name.text) fs

abbrev pub role_texts : List Role → List (List ℕ)
role_texts rs = map (λ (r : Role). r.name.text) rs

-- the number of a function: its index in the order of declaration
abbrev pub function_number : Design → List ℕ → Option ℕ
function_number d x = index_of x (function_texts (functions d))

-- the number of a role: its index in the order of first declarations
abbrev pub role_number : Design → List ℕ → Option ℕ
role_number d x = index_of x (firsts (role_texts (roles_of d)))

-- ---- tables

-- a table for each header, with its fields
abbrev pub HoldsFields : List NameTable → List HeaderDecl → Type 0
HoldsFields ts hs = AllZip (λ (t : NameTable) (h : HeaderDecl). Numbers t (field_texts h.fields)) ts hs

pub record HoldsHeaders (t : HeaderTable) (hs : List HeaderDecl) : Type 0 where
  pub headers : Numbers t.headers (header_texts hs)
  pub fields : HoldsFields t.fields.items hs

-- the functions among some declarations, and where they stand
pub record HoldsFunctions (t : FunctionTable) (ps : List Placed) : Type 0 where
  pub names : Numbers t.names (function_texts (decls_by as_function ps))
  pub places : t.places.items ≡ places_by as_function ps

-- the role of this name that a declaration declares
abbrev pub role_called : List ℕ → Decl → Option Role
role_called x d = option_and_then (λ (r : Role). if same_name x r.name.text then Some r else None) (as_role d)

-- the places that a table has under a number
abbrev pub places_at : RoleTable → ℕ → List Place
places_at t n = option_map_or (λ (v : Vec Place Global). v.items) (slice_get t.places.items n) []

-- the roles among some declarations, each with its places
pub record HoldsRoles (t : RoleTable) (ps : List Placed) : Type 0 where
  pub names : Numbers t.names (firsts (role_texts (decls_by as_role ps)))
  pub count : length t.places.items ≡ length (firsts (role_texts (decls_by as_role ps)))
  pub places : (x : List ℕ) → option_map_or (places_at t) (number_of t.names x) [] ≡ places_by (role_called x) ps

-- all that some declarations declare
pub record Holds (t : DeclTable) (ps : List Placed) : Type 0 where
  pub functions : HoldsFunctions t.functions ps
  pub roles : HoldsRoles t.roles ps
  pub host : t.host ≡ first_of (places_by as_host ps)
  pub switch : t.switch ≡ first_of (places_by as_switch ps)

-- the tables of a design
pub record Declares (t : Declarations) (d : Design) : Type 0 where
  pub headers : HoldsHeaders t.headers d.headers
  pub decls : Holds t.decls (placed d)

-- ---- look-ups

-- what a place declares, where it is of this kind
abbrev pub fetch : {A : Type 0} → (Decl → Option A) → Design → Place → Option A
fetch pick d p = option_and_then pick (decl_at d p)

-- the width of the field with this number
abbrev pub width_at : ℕ → HeaderDecl → Option ℕ
width_at i d = option_map (λ (p : Param). p.width) (slice_get d.fields i)

-- that of the header with this number
abbrev pub width_of : List HeaderDecl → (n : ℕ) → ℕ → Option ℕ
width_of hs n i = option_and_then (width_at i) (slice_get hs n)

-- the width of a field of the header with this number, by the tables of fields
abbrev pub width_by : List HeaderDecl → List ℕ → ℕ → NameTable → Option ℕ
width_by hs f n t = option_and_then (width_of hs n) (number_of t f)

abbrev pub width_in : List NameTable → List HeaderDecl → List ℕ → ℕ → Option ℕ
width_in ts hs f n = option_and_then (width_by hs f n) (slice_get ts n)

-- the last of some places at a level of at most n
abbrev pub latest_of : ℕ → List Place → Option Place
latest_of n [] = None
latest_of n (p ∷ ps) = option_or (latest_of n ps) (if nat_le p.level n then Some p else None)

-- the list of this number has one place more
pub record AddsAt (n : ℕ) (p : Place) (old new : List (Vec Place Global)) : Type 0 where
  pub count : length new ≡ length old
  pub others : (i : ℕ) → (i == n) ≡ false → slice_get new i ≡ slice_get old i
  pub there : option_map_or (λ (v : Vec Place Global). v.items) (slice_get new n) [] ≡ option_map_or (λ (v : Vec Place Global). v.items) (slice_get old n) [] ++ p ∷ []

-- a table with one role more, which stands at one place
pub record AddsName (old new : RoleTable) (p : Place) (x : List ℕ) : Type 0 where
  pub names : (ns : List (List ℕ)) → Numbers old.names ns → Numbers new.names (ns ++ x ∷ [])
  pub list : Vec Place Global
  pub only : list.items ≡ p ∷ []
  pub places : new.places.items ≡ old.places.items ++ list ∷ []
