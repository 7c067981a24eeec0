-- Cited by the clauses of the laws of this crate and by those of code that makes trees: the tree of a role's body, and of
-- the bodies of new roles behind it. Inputs are numbered from a first one on: parameters, fields, then choices as
-- statements are followed. It follows the section "Leaves" of docs/CLAUSES.md.
use Rattle.std.specs.Prelude.{ℕ, zero, suc, ◌+◌, Bool, false, List, [], ◌∷◌, flat_map, length, map, if◌then◌else◌, Some, None}
use Rattle.cocoon_num.specs.Tree.{Param, Role, Design}
use Rattle.cocoon_resolve.specs.Readers.{all_widths}
use Rattle.cocoon_types.specs.Design.{widths_of}
use Rattle.refinement.specs.Segments.{is_new}
use Rattle.refinement.specs.Ways.{Way}
use Rattle.bv_terms.specs.TermTrees.{Term}
use Rattle.obligation_laws.specs.TermOf.{bind_terms}
use Rattle.obligation_laws.specs.States.{NewInput, Place, State, TermWorld, guard_term, input_term, inputs_from, term_world}
use Rattle.obligation_laws.specs.Following.{Followed, each, follow_all, one, those_sent}

-- ---- bodies

-- the role's body begins: its parameters are the only variables
abbrev pub entered : Role → Place → State → State
entered r at s = record s { vars = bind_terms r.params at.values; sent = None }

-- the states that have sent, after the body of a place's role
abbrev pub follow_body : TermWorld → Place → State → ℕ → Followed
follow_body w at s n = elim (w.role at.role) [
  | None ↦ ([], n)
  | Some r ↦ elim r.body [ None ↦ ([], n) | Some b ↦ those_sent (follow_all w b (one (entered r at s) n)) ]
]

-- the role of the place sent to is new
abbrev pub at_new : (List ℕ → Bool) → State → Bool
at_new new s = elim s.sent [ None ↦ false | Some at ↦ new at.role ]

-- at a new role it goes on
abbrev pub onward : (List ℕ → Bool) → (State → ℕ → Followed) → State → ℕ → Followed
onward new f s n = if at_new new s then f s n else one s n

-- from the place sent to: the body there, and the bodies of new roles behind it, at most so many in all
abbrev pub hops : TermWorld → (new : List ℕ → Bool) → (bodies : ℕ) → State → ℕ → Followed
hops w new zero s n = one s n
hops w new (suc k) s n = elim s.sent [
  | None ↦ ([], n)
  | Some at ↦ each (onward new (hops w new k)) (follow_body w at s n).0 (follow_body w at s n).1
]

-- ---- trees

-- Where a leaf leads, with the values of the role's parameters and the packet's fields: to a role that is not new, or,
-- after as many bodies as are allowed, to a new one.
pub data End : Type 0 where
  sent_to : (role : List ℕ) (values fields : List Term) → End
  inside : (role : List ℕ) (values fields : List Term) → End

abbrev pub end_role : End → List ℕ
end_role (sent_to role values fields) = role
end_role (inside role values fields) = role

abbrev pub end_values : End → List Term
end_values (sent_to role values fields) = values
end_values (inside role values fields) = values

abbrev pub end_fields : End → List Term
end_fields (sent_to role values fields) = fields
end_fields (inside role values fields) = fields

-- what must be true to go this way, the choices taken, the branches that run, and where it leads
pub record Leaf : Type 0 where
  pub cond : Term
  pub choices : List NewInput
  pub way : Way
  pub end : End

-- the inputs of the parameters and of the fields, the leaves, and the number of the next input
pub record Tree : Type 0 where
  pub args : List NewInput
  pub fields : List NewInput
  pub leaves : List Leaf
  pub next : ℕ

abbrev pub end_at : (new : Bool) → Place → List Term → End
end_at new at fields = if new then inside at.role at.values fields else sent_to at.role at.values fields

-- a state that has sent is a leaf
abbrev pub leaf_of : (List ℕ → Bool) → State → List Leaf
leaf_of new s = elim s.sent [
  | None ↦ []
  | Some at ↦ record { cond = s.cond; choices = s.choices; way = s.way; end = end_at (new at.role) at s.fields } ∷ []
]

-- a way begins at a place, if its guard is true
abbrev pub begins : TermWorld → Place → (fields : List Term) → State
begins w at fields = record { vars = []; fields = fields; cond = guard_term w at; choices = []; way = []; sent = Some at }

-- the parameters of a role
abbrev pub params_of : TermWorld → List ℕ → List Param
params_of w role = elim (w.role role) [ None ↦ [] | Some r ↦ r.params ]

-- a role, where its parameters are inputs
abbrev pub entry_of : (role : List ℕ) → List NewInput → Place
entry_of role args = record { role = role; values = map input_term args }

-- the tree of these states and of these inputs
abbrev pub tree_with : (new : List ℕ → Bool) → (args fields : List NewInput) → Followed → Tree
tree_with new args fields led = record { args = args; fields = fields; leaves = flat_map (leaf_of new) led.0; next = led.1 }

-- the tree of a role's body and of the bodies of new roles behind it, at most so many in all
abbrev pub tree_of : TermWorld → (field_widths : List ℕ) → (new : List ℕ → Bool) → (bodies : ℕ) → (role : List ℕ) → (first : ℕ) → Tree
tree_of w field_widths new bodies role first =
    let args = inputs_from first (widths_of (params_of w role)) in
    let fields = inputs_from (first + length args) field_widths in
    tree_with new args fields
    (hops w new bodies (begins w (entry_of role args) (map input_term fields)) (first + length args + length fields))

-- that of a role which the block behind the level `above` refines, where the block allows so many bodies
abbrev pub inlined : (above : ℕ) → Design → (role : List ℕ) → (within : ℕ) → (first : ℕ) → Tree
inlined above d role within first = tree_of (term_world (suc above) d) (all_widths d.headers) (is_new above d) within role first

-- that of one body at a level, where no role is new
abbrev pub body_tree : (level : ℕ) → Design → (role : List ℕ) → (first : ℕ) → Tree
body_tree level d role first = tree_of (term_world level d) (all_widths d.headers) (λ r. false) 1 role first
