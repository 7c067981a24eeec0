-- What the terms of expressions are made of: if a property holds of the inputs of variables and fields, it holds of theirs.
use Rattle.std.proofs.Common.{◌≡◌, ℕ, zero, suc, ◌==◌, List, [], ◌∷◌, ◌++◌, length, drop, take, reverse, Bool, true, false, Option, Some, None, if◌then◌else◌, refl, subst}
use Rattle.std.specs.Prelude.{◌||◌}
use Rattle.cocoon_num.specs.Names.{same_name}
use Rattle.cocoon_num.specs.Tree.{Param, Expr, name, field, lit, true_or_false, call, unary, binary, slice, pick, Exprs, no_exprs, expr, FunctionDecl, HeaderDecl, Role, Design}
use Rattle.cocoon_num.specs.Values.{FitsWidth, BinaryOp, add, sub, bits_and, bits_or, bits_xor, concat, equal, unequal, less, less_equal, greater, greater_equal, and_, or_, implies}
use Rattle.cocoon_types.specs.Design.{functions, role_at}
use Rattle.bv_terms.specs.Inputs.{InputsFit}
use Rattle.bv_terms.specs.TermTrees as term
use Rattle.bv_terms.specs.TermTrees.{Term, Args, no_args, arg}
use Rattle.bv_terms.specs.TermValues.{Inputs}
use Rattle.bv_terms.specs.Walks.{is_among, leave, same_term, walk, walk_args}
use Rattle.refinement.proofs.Lists.{same_number}
use Rattle.sound_types.proofs.Options.{both_true}
use Rattle.obligation_laws.specs.TermOf.{TermContext, TermEnv, args_of, bind_terms, binary_term, call_in, field_term, result_width, term_context, term_in, term_of, terms_of, variable_term}
use Rattle.obligation_laws.specs.MadeOf.{AllMade, Made, MadeArgs, OfInputs, VarsMade}
use Rattle.obligation_laws.specs.States.{Place, guard_term, set_in, set_term, term_world}

module _ (P : OfInputs) where
  pub made_join : (ts us : List Term) → AllMade P ts → AllMade P us → AllMade P (ts ++ us)
  made_join [] us h k = k
  made_join (t ∷ ts) us h k = (h.0, made_join ts us h.1 k)

  made_drop : (n : ℕ) (ts : List Term) → AllMade P ts → AllMade P (drop n ts)
  made_drop zero ts h = h
  made_drop (suc n) [] h = tt
  made_drop (suc n) (t ∷ ts) h = made_drop n ts h.1

  made_take : (n : ℕ) (ts : List Term) → AllMade P ts → AllMade P (take n ts)
  made_take zero ts h = tt
  made_take (suc n) [] h = tt
  made_take (suc n) (t ∷ ts) h = (h.0, made_take n ts h.1)

  -- ---- names in scope

  one_made : (b : Bool) (t u : Term) → Made P t → Made P u → Made P (if b then t else u)
  one_made true t u h k = h
  one_made false t u h k = k

  variable_made : (vars : TermEnv) (x : List ℕ) → VarsMade P vars → Made P (variable_term vars x)
  variable_made [] x h = tt
  variable_made (v ∷ vars) x h = one_made (same_name x v.0) v.1 (variable_term vars x) h.0 (variable_made vars x h.1)

  in_made : (ps : List Param) (ts : List Term) (f : List ℕ) → AllMade P ts → Made P (term_in ps ts f)
  in_made [] ts f h = tt
  in_made (p ∷ ps) [] f h = tt
  in_made (p ∷ ps) (t ∷ ts) f h = one_made (same_name f p.name.text) t (term_in ps ts f) h.0 (in_made ps ts f h.1)

  field_made : (hs : List HeaderDecl) (ts : List Term) (h f : List ℕ) → AllMade P ts → Made P (field_term hs ts h f)
  field_made [] ts h f k = tt
  field_made (d ∷ ds) ts h f k =
      one_made (same_name h d.name.text) (term_in d.fields ts f) (field_term ds (drop (length d.fields) ts) h f) (in_made d.fields ts f k)
      (field_made ds (drop (length d.fields) ts) h f (made_drop (length d.fields) ts k))

  some_made : (b : Bool) (ts us : List Term) → AllMade P ts → AllMade P us → AllMade P (if b then ts else us)
  some_made true ts us h k = h
  some_made false ts us h k = k

  set_in_made : (ps : List Param) (ts : List Term) (f : List ℕ) (u : Term) → Made P u → AllMade P ts → AllMade P (set_in ps ts f u)
  set_in_made [] ts f u k h = h
  set_in_made (p ∷ ps) [] f u k h = h
  set_in_made (p ∷ ps) (t ∷ ts) f u k h = some_made (same_name f p.name.text) (u ∷ ts) (t ∷ set_in ps ts f u) (k, h.1) (h.0, set_in_made ps ts f u k h.1)

  pub set_made : (hs : List HeaderDecl) (ts : List Term) (h f : List ℕ) (u : Term) → Made P u → AllMade P ts → AllMade P (set_term hs ts h f u)
  set_made [] ts h f u k l = l
  set_made (d ∷ ds) ts h f u k l =
      let n = length d.fields in
      some_made (same_name h d.name.text) (set_in d.fields ts f u) (take n ts ++ set_term ds (drop n ts) h f u) (set_in_made d.fields ts f u k l)
      (made_join (take n ts) (set_term ds (drop n ts) h f u) (made_take n ts l) (set_made ds (drop n ts) h f u k (made_drop n ts l)))

  -- ---- expressions

  pub operator_made : (op : BinaryOp) (a b : Term) → Made P a → Made P b → Made P (binary_term op a b)
  operator_made add a b h k = (h, k)
  operator_made sub a b h k = (h, k)
  operator_made bits_and a b h k = (h, k)
  operator_made bits_or a b h k = (h, k)
  operator_made bits_xor a b h k = (h, k)
  operator_made concat a b h k = (h, k)
  operator_made equal a b h k = (h, k)
  operator_made unequal a b h k = (h, k)
  operator_made less a b h k = (h, k)
  operator_made less_equal a b h k = (k, h)
  operator_made greater a b h k = (k, h)
  operator_made greater_equal a b h k = (h, k)
  operator_made and_ a b h k = (h, k)
  operator_made or_ a b h k = (h, k)
  operator_made implies a b h k = (h, k)

  abbrev pub CallsMade : TermContext → Type 0
  CallsMade c = (f : List ℕ) (ts : List Term) → AllMade P ts → Made P (c.call f ts)

  mutual
    pub expr_made : (c : TermContext) → CallsMade c → (vars : TermEnv) → VarsMade P vars → (fields : List Term) → AllMade P fields → (e : Expr) → Made P (term_of c vars fields e)
    expr_made c k vars v fields h (name at x) = variable_made vars x v
    expr_made c k vars v fields h (field at x f) = field_made c.headers fields x.text f.text h
    expr_made c k vars v fields h (lit at w n) = tt
    expr_made c k vars v fields h (true_or_false at b) = tt
    expr_made c k vars v fields h (call at f es) = k f.text (terms_of c vars fields es) (exprs_made c k vars v fields h es)
    expr_made c k vars v fields h (unary at op a) = expr_made c k vars v fields h a
    expr_made c k vars v fields h (binary at op a b) =
        operator_made op (term_of c vars fields a) (term_of c vars fields b) (expr_made c k vars v fields h a) (expr_made c k vars v fields h b)
    expr_made c k vars v fields h (slice at a high low) = expr_made c k vars v fields h a
    expr_made c k vars v fields h (pick at x a b) = (expr_made c k vars v fields h x, expr_made c k vars v fields h a, expr_made c k vars v fields h b)

    pub exprs_made : (c : TermContext) → CallsMade c → (vars : TermEnv) → VarsMade P vars → (fields : List Term) → AllMade P fields → (es : Exprs) → AllMade P (terms_of c vars fields es)
    exprs_made c k vars v fields h no_exprs = tt
    exprs_made c k vars v fields h (expr e es) = (expr_made c k vars v fields h e, exprs_made c k vars v fields h es)

  pub bound_made : (ps : List Param) (ts : List Term) → AllMade P ts → VarsMade P (bind_terms ps ts)
  bound_made [] ts h = tt
  bound_made (p ∷ ps) [] h = tt
  bound_made (p ∷ ps) (t ∷ ts) h = (h.0, bound_made ps ts h.1)

  args_made : (ts : List Term) → AllMade P ts → MadeArgs P (args_of ts)
  args_made [] h = tt
  args_made (t ∷ ts) h = (h.0, args_made ts h.1)

  -- the body of a function, or an application
  body_made : (d : FunctionDecl) (earlier : List FunctionDecl) (ts : List Term) → AllMade P ts → ((g : List ℕ) (us : List Term) → AllMade P us → Made P (call_in earlier g us)) → (o : Option Expr)
      → Made P (elim o as (λ x. Term) [ None ↦ term.apply (length earlier) (args_of ts) (result_width d.result) | Some e ↦ term_of (record { headers = []; call = call_in earlier }) (bind_terms d.params ts) [] e ])
  body_made d earlier ts h later None = args_made ts h
  body_made d earlier ts h later (Some e) = expr_made (record { headers = []; call = call_in earlier }) later (bind_terms d.params ts) (bound_made d.params ts h) [] tt e

  call_made : (ds : List FunctionDecl) (f : List ℕ) (ts : List Term) → AllMade P ts → Made P (call_in ds f ts)
  call_made [] f ts h = tt
  call_made (d ∷ earlier) f ts h =
      one_made (same_name f d.name.text)
      (elim d.body as (λ x. Term) [ None ↦ term.apply (length earlier) (args_of ts) (result_width d.result) | Some e ↦ term_of (record { headers = []; call = call_in earlier }) (bind_terms d.params ts) [] e ])
      (call_in earlier f ts) (body_made d earlier ts h (call_made earlier) d.body) (call_made earlier f ts h)

  pub calls_made : (d : Design) → CallsMade (term_context d)
  calls_made d f ts h = call_made (reverse (functions d)) f ts h

  pub guard_made : (d : Design) (level : ℕ) (at : Place) → AllMade P at.values → Made P (guard_term (term_world level d) at)
  guard_made d level at h = by (role_at level d at.role)
    where
      by : (o : Option Role) → Made P (elim o as (λ x. Term) [ None ↦ term.constant 1 0 | Some r ↦ term_of (term_context d) (bind_terms r.params at.values) [] r.guard ])
      by None = tt
      by (Some r) = expr_made (term_context d) (calls_made d) (bind_terms r.params at.values) (bound_made r.params at.values h) [] tt r.guard

  -- ---- inputs that a walk meets

  leave_made : (t : Term) (seen : List Term) → Made P t → AllMade P seen → AllMade P (leave t seen)
  leave_made t seen h k = some_made (is_among seen t) seen (seen ++ t ∷ []) k (made_join seen (t ∷ []) k (h, tt))

  mutual
    walk_made : (t : Term) (seen : List Term) → Made P t → AllMade P seen → AllMade P (walk t seen)
    walk_made (term.constant w n) seen h k = leave_made (term.constant w n) seen h k
    walk_made (term.input i w) seen h k = leave_made (term.input i w) seen h k
    walk_made (term.apply f args w) seen h k = leave_made (term.apply f args w) (walk_args args seen) h (walk_args_made args seen h k)
    walk_made (term.not_ a) seen h k = leave_made (term.not_ a) (walk a seen) h (walk_made a seen h k)
    walk_made (term.binary op a b) seen h k = leave_made (term.binary op a b) (walk b (walk a seen)) h (walk_made b (walk a seen) h.1 (walk_made a seen h.0 k))
    walk_made (term.slice a high low) seen h k = leave_made (term.slice a high low) (walk a seen) h (walk_made a seen h k)
    walk_made (term.pick c a b) seen h k =
        leave_made (term.pick c a b) (walk b (walk a (walk c seen))) h (walk_made b (walk a (walk c seen)) h.2 (walk_made a (walk c seen) h.1 (walk_made c seen h.0 k)))

    walk_args_made : (ts : Args) (seen : List Term) → MadeArgs P ts → AllMade P seen → AllMade P (walk_args ts seen)
    walk_args_made no_args seen h k = k
    walk_args_made (arg t ts) seen h k = walk_args_made ts (walk t seen) h.1 (walk_made t seen h.0 k)

  same_input : (u : Term) (i w : ℕ) → same_term u (term.input i w) ≡ true → Made P u → P i w
  same_input (term.input j v) i w h k =
      let e = both_true (j == i) (v == w) h in
      subst (λ x. P x w) (same_number j i e.0) (subst (P j) (same_number v w e.1) k)
  same_input (term.constant v n) i w h k = absurd (cc)
  same_input (term.apply f args v) i w h k = absurd (cc)
  same_input (term.not_ a) i w h k = absurd (cc)
  same_input (term.binary op a b) i w h k = absurd (cc)
  same_input (term.slice a high low) i w h k = absurd (cc)
  same_input (term.pick c a b) i w h k = absurd (cc)

  among_made : (ts : List Term) (i w : ℕ) → AllMade P ts → is_among ts (term.input i w) ≡ true → P i w
  among_made [] i w h k = absurd (cc)
  among_made (t ∷ ts) i w h k = by (among_made ts i w h.1) (same_term t (term.input i w)) refl k
    where
      by : (is_among ts (term.input i w) ≡ true → P i w) → (b : Bool) → same_term t (term.input i w) ≡ b → (b || is_among ts (term.input i w)) ≡ true → P i w
      by later true e g = same_input t i w e h.0
      by later false e g = later g

  pub mentioned : (t : Term) (i w : ℕ) → Made P t → is_among (walk t []) (term.input i w) ≡ true → P i w
  mentioned t i w h k = among_made (walk t []) i w (walk_made t [] h tt) k

-- inputs that fit, where each input of a term does
pub made_fit : (ins : Inputs) (t : Term) → Made (λ i w. FitsWidth w (ins i)) t → InputsFit t ins
made_fit ins t h = λ i w k. mentioned (λ i w. FitsWidth w (ins i)) t i w h k
