-- What a `Checked` keeps: a design that was read, by all rules and limits, and what its readers look up. Its invariant cites it, and private
-- clauses.
use Rattle.std.specs.Prelude.{◌≡◌, ◌/◌, ◌≤◌, ◌+◌, ℕ, All, Bool, false, List, [], ◌∷◌, Some, None, IsTrue, filter_map, length, map, reverse, slice_get, unwrap_or, Vec}
use Rattle.std.specs.declared.alloc.Global.{Global}
use Rattle.cocoon_num.specs.Packets.{total}
use Rattle.cocoon_num.specs.Spelled.{is_spelled}
use Rattle.cocoon_num.specs.Tree.{AssumeDecl, Decl, Role, Design}
use Rattle.cocoon_num.specs.Names.{named}
use Rattle.cocoon_syntax.specs.TreeOf.{assume_of}
use Rattle.cocoon_types.specs.Design.{as_role, decls_to, functions, last_level}
use Rattle.declarations.specs.declared.tables.Declarations.{Declarations}
use Rattle.declarations.specs.Declares.{Declares, role_number}
use Rattle.cocoon_resolve.specs.declared.assumptions.Assumptions.{Assumptions}
use Rattle.cocoon_resolve.specs.declared.bodies.Bodies.{Bodies}
use Rattle.cocoon_resolve.specs.Readers.{assumptions_to, field_widths, reads_back}
use Rattle.cocoon_resolve.specs.Resolved.{Resolves, WasRead}
use Rattle.cocoon_types.specs.Names.{IsNamed}

-- the assumptions of levels 0 to n, and their count up to each of these levels
pub record HoldsTo (n : ℕ) (d : Design) (held : List AssumeDecl) (counts : List ℕ) : Type 0 where
  pub assumptions : held ≡ assumptions_to n d
  pub size : length counts ≡ n + 1
  pub each : (level : ℕ) → level ≤ n → slice_get counts level ≡ Some (length (assumptions_to level d))

-- those of all levels
abbrev pub HoldsAssumptions : Assumptions → Design → Type 0
HoldsAssumptions t d = HoldsTo (last_level d) d (map assume_of t.held.items) t.counts.items

-- widths that a declaration may have
abbrev pub AreDeclared : List ℕ → Type 0
AreDeclared [] = Unit {0}
AreDeclared (w ∷ ws) = (w ≤ 64) × AreDeclared ws

-- ---- bodies that read back

-- a row says of each role among some declarations whether the body that comes last reads back
abbrev pub HoldsRow : Design → List Decl → List Bool → Type 0
HoldsRow d ds row = (name : List ℕ) (n : ℕ) (r : Role) → role_number d name ≡ Some n
    → named (λ (x : Role). x.name) name (reverse (filter_map as_role ds)) ≡ Some r → slice_get row n ≡ Some (reads_back d r)

-- what the row of a level says of a role; false where there is none
abbrev pub row_says : Bodies → (level role : ℕ) → Bool
row_says t level role = elim (slice_get t.rows.items level) [ None ↦ false | Some row ↦ unwrap_or (slice_get row.items role) false ]

-- the rows of levels 0 to n
pub record HoldsRows (n : ℕ) (d : Design) (rows : List (Vec Bool Global)) : Type 0 where
  pub size : length rows ≡ n + 1
  pub each : (level : ℕ) (row : Vec Bool Global) → level ≤ n → slice_get rows level ≡ Some row → HoldsRow d (decls_to level d) row.items

abbrev pub HoldsBodies : Bodies → Design → Type 0
HoldsBodies t d = HoldsRows (last_level d) d t.rows.items

pub record IsKept (names : Declarations) (assumptions : Assumptions) (bodies : Bodies) (widths : List ℕ) (bytes : ℕ) (d : Design) : Type 0 where
  pub resolves : Resolves d
  pub read : WasRead d
  pub spelled : IsTrue (is_spelled d)
  pub named : All IsNamed (functions d)
  pub declares : Declares names d
  pub assumes : HoldsAssumptions assumptions d
  pub read_back : HoldsBodies bodies d
  pub widths_are : widths ≡ field_widths d
  pub bytes_are : bytes ≡ total (field_widths d) / 8
