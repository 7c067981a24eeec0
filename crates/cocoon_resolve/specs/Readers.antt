-- Cited by the clauses of the readers of `Checked`: what they say of the design.
use Rattle.std.specs.Prelude.{◌≡◌, ℕ, ◌==◌, Bool, true, List, Some, None, filter_map, flat_map, is_none, length, slice_get}
use Rattle.cocoon_num.specs.Tree.{FunctionDecl, AssumeDecl, Role, HeaderDecl, Design}
use Rattle.cocoon_types.specs.Design.{decls_to, functions, last_level, role_at, widths_of}
use Rattle.cocoon_types.specs.Limits.{as_assumption}
use Rattle.cocoon_types.specs.ReadBack.{hidden_in}
use Rattle.declarations.specs.Declares.{role_number}

-- the role of this number is declared at a level of at most this
pub record HasRole (d : Design) (role level : ℕ) : Type 0 where
  pub name : List ℕ
  pub number : role_number d name ≡ Some role
  pub latest : Role
  pub declared : role_at level d name ≡ Some latest

-- whether the function of this number has no body
abbrev pub IsRuntime : Design → (function : ℕ) → Bool → Type 0
IsRuntime d function b = (f : FunctionDecl) → slice_get (functions d) function ≡ Some f → b ≡ is_none f.body

-- the assumptions of levels 0 to this, in the order of the text
abbrev pub assumptions_to : ℕ → Design → List AssumeDecl
assumptions_to level d = filter_map as_assumption (decls_to level d)

-- those of all levels
abbrev pub all_assumptions : Design → List AssumeDecl
all_assumptions d = assumptions_to (last_level d) d

-- the widths of the fields of some headers, header by header
abbrev pub all_widths : List HeaderDecl → List ℕ
all_widths hs = flat_map (λ (h : HeaderDecl). widths_of h.fields) hs

-- those of a design
abbrev pub field_widths : Design → List ℕ
field_widths d = all_widths d.headers

-- the role has no body, or no choice of its body is hidden
abbrev pub reads_back : Design → Role → Bool
reads_back d r = elim r.body [ None ↦ true | Some b ↦ length (hidden_in d b) == 0 ]

-- whether the body of the role of this number reads back at a level
abbrev pub ReadsBack : Design → (role level : ℕ) → Bool → Type 0
ReadsBack d role level b = (name : List ℕ) (r : Role) → role_number d name ≡ Some role → role_at level d name ≡ Some r → b ≡ reads_back d r
