-- Cited by the clauses of the laws of this crate and by those of code that follows bodies: what is known of a packet
-- on its way, as terms over inputs. It follows the section "Leaves" of docs/CLAUSES.md. Headers are all there: none is
-- optional.
use Rattle.std.specs.Prelude.{ℕ, suc, Bool, List, [], ◌∷◌, ◌++◌, length, take, drop, if◌then◌else◌, Option, Some, None}
use Rattle.cocoon_num.specs.Names.{same_name}
use Rattle.cocoon_num.specs.Tree.{Param, Role, HeaderDecl, Design}
use Rattle.cocoon_types.specs.Design.{field_width, role_at}
use Rattle.refinement.specs.Ways.{Way}
use Rattle.bv_terms.specs.declared.node.TermOp.TheVariants as ops
use Rattle.bv_terms.specs.TermTrees as term
use Rattle.bv_terms.specs.TermTrees.{Term}
use Rattle.obligation_laws.specs.TermOf.{TermContext, TermEnv, bind_terms, no_term, term_context, term_of}

-- ---- inputs

-- an input: its number and its width
pub record NewInput : Type 0 where
  pub number : ℕ
  pub width : ℕ

abbrev pub input_term : NewInput → Term
input_term i = term.input i.number i.width

-- inputs of these widths, numbered from the first on
abbrev pub inputs_from : (first : ℕ) → List ℕ → List NewInput
inputs_from first [] = []
inputs_from first (w ∷ ws) = record { number = first; width = w } ∷ inputs_from (suc first) ws

-- ---- states

-- a role with the terms of its parameters
pub record Place : Type 0 where
  pub role : List ℕ
  pub values : List Term

-- What is known at one point of one way: variables with their terms, the latest first; the terms of all fields, header by
-- header; what must be true to come here; the choices that were taken, in order; the branches that ran; and the place
-- sent to, if the way has sent.
pub record State : Type 0 where
  pub vars : TermEnv
  pub fields : List Term
  pub cond : Term
  pub choices : List NewInput
  pub way : Way
  pub sent : Option Place

-- the condition is one chain from the left
abbrev pub and_with : Term → Term → Term
and_with cond t = term.binary ops.And cond t

-- what the expression's term says must be true, too
abbrev pub where_true : Term → State → State
where_true t s = record s { cond = and_with s.cond t }

abbrev pub with_variable : List ℕ → Term → State → State
with_variable x t s = record s { vars = (x, t) ∷ s.vars }

-- one more choice was taken
abbrev pub with_choice : NewInput → State → State
with_choice i s = record s { choices = s.choices ++ i ∷ [] }

-- one more branch ran: the first of an `if`, or the second
abbrev pub with_branch : Bool → State → State
with_branch b s = record s { way = s.way ++ b ∷ [] }

-- the variables of a block end with it
abbrev pub back_to : TermEnv → State → State
back_to vars s = record s { vars = vars }

-- ---- fields

-- the terms of the fields of one header, and of those behind it, with the field f set
abbrev pub set_in : List Param → List Term → List ℕ → Term → List Term
set_in (p ∷ ps) (t ∷ ts) f u = if same_name f p.name.text then u ∷ ts else t ∷ set_in ps ts f u
set_in _ ts f u = ts

-- the terms of all fields, header by header, with the field f of the header h set
abbrev pub set_term : List HeaderDecl → List Term → List ℕ → List ℕ → Term → List Term
set_term [] ts h f u = ts
set_term (d ∷ ds) ts h f u =
    if same_name h d.name.text then set_in d.fields ts f u
    else take (length d.fields) ts ++ set_term ds (drop (length d.fields) ts) h f u

abbrev pub with_field : List HeaderDecl → List ℕ → List ℕ → Term → State → State
with_field headers h f t s = record s { fields = set_term headers s.fields h f t }

-- the width of a field that is declared
abbrev pub choice_width : List HeaderDecl → List ℕ → List ℕ → ℕ
choice_width headers h f = elim (field_width headers h f) [ None ↦ 1 | Some w ↦ w ]

-- ---- what bodies are followed in

-- how expressions stand for terms, and the latest declaration of each role at the level
pub record TermWorld : Type 0 where
  pub context : TermContext
  pub role : List ℕ → Option Role

abbrev pub term_world : (level : ℕ) → Design → TermWorld
term_world i d = record { context = term_context d; role = role_at i d }

-- the term of the guard of a place; a guard sees no packet
abbrev pub guard_term : TermWorld → Place → Term
guard_term w at = elim (w.role at.role) [ None ↦ no_term | Some r ↦ term_of w.context (bind_terms r.params at.values) [] r.guard ]
