-- Cited by the clauses of the walk over a body: its statements, and the tests that the rules make of each. What is in
-- scope at a statement matters for none of these rules.
use Rattle.std.specs.Prelude.{ℕ, ◌&&◌, Bool, true, false, not, List, [], ◌∷◌, ◌++◌, flat_map, Option}
use Rattle.std.specs.List.{list_any}
use Rattle.cocoon_num.specs.Tree.{Name, Expr, field, Exprs, Stmt, let_, set_field, if_, filter, assume, fork, send, Block, no_stmts, stmt, Param, HostDecl, SwitchDecl, Design}
use Rattle.cocoon_types.specs.Parts.{parts, parts_of}
use Rattle.cocoon_types.specs.FormRules.{is_own_out, wire_send, fork_condition}

-- ---- statements

abbrev mutual
  -- a statement and all those in its blocks
  pub stmts_of : Stmt → List Stmt
  stmts_of (if_ at e a b) = if_ at e a b ∷ stmts_in a ++ stmts_in b
  stmts_of (fork at x w e b) = fork at x w e b ∷ stmts_in b
  stmts_of a = a ∷ []

  -- those of a block, and of the blocks in it
  pub stmts_in : Block → List Stmt
  stmts_in no_stmts = []
  stmts_in (stmt first rest) = stmts_of first ++ stmts_in rest

-- the statement is a fork
abbrev pub is_fork : Stmt → Bool
is_fork a = elim a [ fork at x w e b ↦ true | _ ↦ false ]

-- a statement is a fork, or has one in a block
abbrev pub has_fork : Stmt → Bool
has_fork a = list_any is_fork (stmts_of a)

-- a block has a fork
abbrev pub holds_fork : Block → Bool
holds_fork b = list_any is_fork (stmts_in b)

-- ---- expressions

-- `pkt`, where an expression is a field
abbrev pub field_at : Expr → List ℕ
field_at e = elim e [ field at h f ↦ at ∷ [] | _ ↦ [] ]

-- each `pkt` in an expression
abbrev pub fields_in : Expr → List ℕ
fields_in e = flat_map field_at (parts e)

-- the same of some expressions
abbrev pub fields_of : Exprs → List ℕ
fields_of es = flat_map field_at (parts_of es)

-- each `pkt` in the expressions that stand in a statement itself
abbrev pub fields_at : Stmt → List ℕ
fields_at a = elim a [
  | let_ at x w e ↦ fields_in e
  | set_field at h f e ↦ fields_in e
  | if_ at e x y ↦ fields_in e
  | filter at e ↦ fields_in e
  | assume at e ↦ fields_in e
  | fork at x w e b ↦ fields_in e
  | send at r es ↦ fields_of es
  | _ ↦ []
]

-- ---- statements

-- a wire may have the statement, its expressions aside: it is an `if`, or a `send` to the right role
abbrev pub may_have : HostDecl → SwitchDecl → (wire : Name) → Stmt → Bool
may_have h s wire a = elim a [ if_ at e x y ↦ true | send at r es ↦ wire_send h s wire r | _ ↦ false ]

-- it is no `send` of the first switch role to anything but SwOut[s, e], where `own` is s
abbrev pub sends_own : (out : List ℕ) → (own : Option Param) → Stmt → Bool
sends_own out own a = elim a [ send at r es ↦ is_own_out out own r es | _ ↦ true ]

-- it is no fork of the first switch role but of the form
abbrev pub forks_well : Design → Stmt → Bool
forks_well d a = elim a [ fork at x w e b ↦ fork_condition d x.text e && not (holds_fork b) | _ ↦ true ]
