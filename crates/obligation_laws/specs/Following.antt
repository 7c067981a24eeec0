-- Cited by the clauses of the laws of this crate and by those of code that follows bodies: what each statement makes of a
-- state, by cases on the tree. A way that sends is not followed further. It follows the sections "A body's run" of
-- docs/LANGUAGE.md and "Leaves" of docs/CLAUSES.md; every statement has its case.
use Rattle.std.specs.Prelude.{ℕ, suc, Bool, true, false, List, [], ◌∷◌, ◌++◌, map, filter as list_filter, Some, None, is_some}
use Rattle.cocoon_num.specs.Tree.{Expr, Stmt, let_, set_field, if_, filter, havoc_var, havoc_field, assume, fork, send, Block, no_stmts, stmt}
use Rattle.bv_terms.specs.TermTrees as term
use Rattle.bv_terms.specs.TermTrees.{Term}
use Rattle.obligation_laws.specs.TermOf.{TermEnv, term_of, terms_of}
use Rattle.obligation_laws.specs.States.{NewInput, Place, State, TermWorld, back_to, choice_width, guard_term, input_term, where_true, with_branch, with_choice, with_field, with_variable}

-- states in the order of their ways, and the number of the next input
abbrev pub Followed : Type 0
Followed = List State × ℕ

abbrev pub one : State → ℕ → Followed
one s n = (s ∷ [], n)

-- some states, and then those that come of the next input on
abbrev pub then_those : Followed → (ℕ → Followed) → Followed
then_those a f = (a.0 ++ (f a.1).0, (f a.1).1)

-- what comes of each state, one after another
abbrev pub each : (State → ℕ → Followed) → List State → ℕ → Followed
each f [] n = ([], n)
each f (s ∷ ss) n = then_those (f s n) (each f ss)

-- a way that has sent has ended
abbrev pub unless_sent : (State → ℕ → Followed) → State → ℕ → Followed
unless_sent f s n = elim s.sent [ None ↦ f s n | Some at ↦ one s n ]

abbrev pub has_sent : State → Bool
has_sent s = is_some s.sent

-- the ways that have sent; what falls has no leaf
abbrev pub those_sent : Followed → Followed
those_sent r = (list_filter has_sent r.0, r.1)

-- after an `if` its branches' variables are gone
abbrev pub all_back_to : TermEnv → Followed → Followed
all_back_to vars r = (map (back_to vars) r.0, r.1)

-- the term of an expression in a state
abbrev pub term_at : TermWorld → State → Expr → Term
term_at w s e = term_of w.context s.vars s.fields e

-- a branch begins: its condition is true
abbrev pub in_branch : Bool → Term → State → State
in_branch true t s = with_branch true (where_true t s)
in_branch false t s = with_branch false (where_true (term.not_ t) s)

-- a number of the width is chosen: the next input
abbrev pub next_input : (n width : ℕ) → NewInput
next_input n width = record { number = n; width = width }

-- it is the variable x
abbrev pub chosen_as : List ℕ → NewInput → State → State
chosen_as x i s = with_choice i (with_variable x (input_term i) s)

-- the way sends, where the guard there is true
abbrev pub sends_to : TermWorld → Place → State → State
sends_to w at s = record (where_true (guard_term w at) s) { sent = Some at }

abbrev mutual
  -- the states that a statement makes of a state
  pub follow : TermWorld → Stmt → State → ℕ → Followed
  follow w (let_ at x width e) s n = one (with_variable x.text (term_at w s e) s) n
  follow w (set_field at h f e) s n = one (with_field w.context.headers h.text f.text (term_at w s e) s) n
  follow w (if_ at e first second) s n =
      all_back_to s.vars
      (then_those (follow_all w first (one (in_branch true (term_at w s e) s) n))
      (λ m. follow_all w second (one (in_branch false (term_at w s e) s) m)))
  follow w (filter at e) s n = one (where_true (term_at w s e) s) n
  follow w (havoc_var at x width) s n = one (chosen_as x.text (next_input n width) s) (suc n)
  follow w (havoc_field at h f) s n =
      let i = next_input n (choice_width w.context.headers h.text f.text) in
      one (with_choice i (with_field w.context.headers h.text f.text (input_term i) s)) (suc n)
  follow w (assume at e) s n = one (where_true (term_at w s e) s) n
  follow w (fork at x width e body) s n =
      let chosen = chosen_as x.text (next_input n width) s in
      those_sent (follow_all w body (one (where_true (term_at w chosen e) chosen) (suc n)))
  follow w (send at r es) s n =
      one (sends_to w (record { role = r.text; values = terms_of w.context s.vars s.fields es }) s) n

  -- a block, statement by statement: each in every state that has not sent
  pub follow_all : TermWorld → Block → Followed → Followed
  follow_all w no_stmts r = r
  follow_all w (stmt x rest) r = follow_all w rest (each (unless_sent (follow w x)) r.0 r.1)
