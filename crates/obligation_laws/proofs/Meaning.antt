-- What states mean for given inputs, and that terms in them have the values of expressions.
use Rattle.std.proofs.Common.{◌≡◌, ℕ, ◌<◌, ◌^◌, List, [], ◌∷◌, Bool, true, Option, Some, None, if◌then◌else◌, option_and_then, option_map, refl, sym, ap, subst, ◌∙◌}
use Rattle.std.specs.List.{AllZip}
use Rattle.std.proofs.lemmas.Bool.{lt-ltb}
use Rattle.cocoon_num.specs.Packets.{Packet}
use Rattle.cocoon_num.specs.Sorts.{Sort, bits_sort, truth_sort}
use Rattle.cocoon_num.specs.Tree.{Param, Expr, Exprs, Role, Design}
use Rattle.cocoon_num.specs.Values.{Value, number, truth, FitsWidth, as_number}
use Rattle.cocoon_resolve.specs.Readers.{all_widths}
use Rattle.cocoon_types.specs.Design.{role_at, widths_of}
use Rattle.cocoon_types.specs.Runs.{End, falls, sends, Loc, world}
use Rattle.cocoon_types.specs.Tables.{Defs}
use Rattle.cocoon_types.specs.Taken.{guard_at}
use Rattle.cocoon_types.specs.Val.{Env, bind, bound, context, numbers, value}
use Rattle.refinement.specs.Ways.{choose}
use Rattle.bv_terms.specs.TermTrees.{Term}
use Rattle.bv_terms.specs.TermValues.{Functions, Inputs, number_in, term_value}
use Rattle.sound_types.specs.Matching.{Binds, IsOfSort}
use Rattle.sound_types.specs.WellTyped.{HasType, HaveWidths, IsTypedRole, scope_at}
use Rattle.obligation_laws.specs.Shown.{HasNumber, env_of, functions_by, numbers_of, packet_in}
use Rattle.obligation_laws.specs.TermOf.{TermEnv, bind_terms, term_context, term_of, terms_of}
use Rattle.obligation_laws.proofs.OperatorTerms.{shown}
use Rattle.obligation_laws.proofs.ExprValues.{AreNumbers, ShownAs}
use Rattle.obligation_laws.specs.States.{Place, State, guard_term, term_world}
use Rattle.obligation_laws.specs.Meant.{IsOne}
use Rattle.obligation_laws.proofs.TruthValues.{IsBit}

-- ---- values that are shown

-- the expression is true or false, and so is the term
pub record TruthShown (F : Functions) (ins : Inputs) (o : Option Value) (u : Term) : Type 0 where
  pub truth_ : Bool
  pub is : o ≡ Some (truth truth_)
  pub term : term_value F ins u ≡ shown (truth truth_)

pub truth_shown : (F : Functions) (ins : Inputs) (o : Option Value) (u : Term) → ShownAs F ins truth_sort o u → TruthShown F ins o u
truth_shown F ins o u h = by h.value h.is h.sort h.term
  where
    by : (v : Value) → o ≡ Some v → IsOfSort truth_sort v → term_value F ins u ≡ shown v → TruthShown F ins o u
    by (number x n) e s t = absurd s
    by (truth b) e s t = record { truth_ = b; is = e; term = t }

-- the expression is a number that fits the width, and so is the term
pub record NumberShown (F : Functions) (ins : Inputs) (w : ℕ) (o : Option Value) (u : Term) : Type 0 where
  pub is : o ≡ Some (term_value F ins u)
  pub number_ : option_and_then as_number o ≡ Some (number_in (term_value F ins u))
  pub fits : HasNumber F ins w u

pub number_shown : (F : Functions) (ins : Inputs) (w : ℕ) (o : Option Value) (u : Term) → ShownAs F ins (bits_sort w) o u → NumberShown F ins w o u
number_shown F ins w o u h = by h.value h.is h.sort h.term
  where
    by : (v : Value) → o ≡ Some v → IsOfSort (bits_sort w) v → term_value F ins u ≡ shown v → NumberShown F ins w o u
    by (truth b) e s t = absurd s
    by (number x n) e s t = record {
      is = e ∙ ap Some (sym t);
      number_ = ap (option_and_then as_number) e ∙ ap (λ v. Some (number_in v)) (sym t);
      fits = subst (IsOfSort (bits_sort w)) (sym t) s;
    }

pub are_have : (F : Functions) (ins : Inputs) (ws : List ℕ) (ts : List Term) (ns : List ℕ) → AreNumbers F ins ws ts ns → AllZip (HasNumber F ins) ws ts
are_have F ins [] [] [] h = tt
are_have F ins [] [] (n ∷ ns) h = absurd h
are_have F ins [] (t ∷ ts) ns h = absurd h
are_have F ins (w ∷ ws) [] ns h = absurd h
are_have F ins (w ∷ ws) (t ∷ ts) [] h = absurd h
are_have F ins (w ∷ ws) (t ∷ ts) (n ∷ ns) h = (subst (IsOfSort (bits_sort w)) (sym h.0) (refl, h.1), are_have F ins ws ts ns h.2)

number_of : (w : ℕ) (v : Value) → IsOfSort (bits_sort w) v → (v ≡ number w (number_in v)) × (number_in v < 2 ^ w)
number_of w (number x n) h = (ap (λ u. number u n) h.0, h.1)
number_of w (truth b) h = absurd h

-- parameters are bound to the values of terms
pub bound_are : (F : Functions) (ins : Inputs) (ps : List Param) (ts : List Term) → AllZip (HasNumber F ins) (widths_of ps) ts
    → (bind ps (numbers_of F ins ts) ≡ Some (env_of F ins (bind_terms ps ts))) × Binds ps (env_of F ins (bind_terms ps ts))
bound_are F ins [] [] h = (refl, tt)
bound_are F ins [] (t ∷ ts) h = absurd h
bound_are F ins (p ∷ ps) [] h = absurd h
bound_are F ins (p ∷ ps) (t ∷ ts) h =
    let r = bound_are F ins ps ts h.1 in
    let n = number_of p.width (term_value F ins t) h.0 in (
      (λ i. if lt-ltb (number_in (term_value F ins t)) (2 ^ p.width) n.1 i then option_map (bound p.name.text (number p.width (number_in (term_value F ins t)))) (r.0 i) else None)
          ∙ ap (λ v. Some (bound p.name.text v (env_of F ins (bind_terms ps ts)))) (sym n.0),
      (refl, h.0, r.1),
    )

-- a choice that fits is taken
pub taken : {A : Type 0} (width c : ℕ) (cs : List ℕ) (f : ℕ → List ℕ → Option A) → FitsWidth width c → choose width (c ∷ cs) f ≡ f c cs
taken width c cs f h = λ i. if lt-ltb c (2 ^ width) h i then f c cs else None

-- ---- what holds in a design under definitions and for inputs

pub record Holds (d : Design) (defs : Defs) (ins : Inputs) (level : ℕ) : Type 0 where
  pub values : (vars : List Param) (env : TermEnv) (fields : List Term) → Binds vars (env_of (functions_by d defs) ins env) → AllZip (HasNumber (functions_by d defs) ins) (all_widths d.headers) fields
      → (t : Sort) (e : Expr) → HasType (scope_at d level vars true) t e
      → ShownAs (functions_by d defs) ins t (value (context d defs) (env_of (functions_by d defs) ins env) (packet_in (functions_by d defs) ins d.headers fields) e) (term_of (term_context d) env fields e)
  pub numbers_ : (vars : List Param) (env : TermEnv) (fields : List Term) → Binds vars (env_of (functions_by d defs) ins env) → AllZip (HasNumber (functions_by d defs) ins) (all_widths d.headers) fields
      → (ws : List ℕ) (es : Exprs) → HaveWidths (scope_at d level vars true) ws es
      → (ns : List ℕ) × (numbers (context d defs) (env_of (functions_by d defs) ins env) (packet_in (functions_by d defs) ins d.headers fields) es ≡ Some ns)
      × AreNumbers (functions_by d defs) ins ws (terms_of (term_context d) env fields es) ns
  pub guards : (r : Role) → IsTypedRole d level r → (env : TermEnv) → Binds r.params (env_of (functions_by d defs) ins env)
      → ShownAs (functions_by d defs) ins truth_sort (value (context d defs) (env_of (functions_by d defs) ins env) [] r.guard) (term_of (term_context d) env [] r.guard)
  pub roles : (name : List ℕ) (r : Role) → role_at level d name ≡ Some r → IsTypedRole d level r

module _ (d : Design) (defs : Defs) (ins : Inputs) (level : ℕ) where
  abbrev pub F : Functions
  F = functions_by d defs

  -- where a place is, for the inputs
  abbrev pub loc_at : Place → Loc
  loc_at at = record { role = at.role; values = numbers_of F ins at.values }

  abbrev pub env_at : State → Env
  env_at s = env_of F ins s.vars

  abbrev pub packet_at : State → Packet
  packet_at s = packet_in F ins d.headers s.fields

  abbrev pub end_by : Option Place → Env → Packet → End
  end_by None env packet = falls env packet
  end_by (Some at) env packet = sends (loc_at at) packet

  -- how a run ends that comes to the state
  abbrev pub end_of : State → End
  end_of s = end_by s.sent (env_at s) (packet_at s)

  -- the place's role is declared, and the values fit its parameters
  abbrev pub AtFits : Place → Type 0
  AtFits at = (r : Role) × (role_at level d at.role ≡ Some r) × AllZip (HasNumber F ins) (widths_of r.params) at.values

  -- the variables are those in scope; or the place sent to fits, and its guard is true where the condition is
  abbrev pub FitsBy : List Param → Option Place → State → Type 0
  FitsBy vars None s = Binds vars (env_at s)
  FitsBy vars (Some at) s = AtFits at × (IsOne F ins s.cond → guard_at (world level d defs) (loc_at at) ≡ Some (truth true))

  pub record Fits (vars : List Param) (s : State) : Type 0 where
    pub fields : AllZip (HasNumber F ins) (all_widths d.headers) s.fields
    pub cond : IsBit F ins s.cond
    pub place : FitsBy vars s.sent s

  -- the guard of a place that fits
  pub record GuardShown (at : Place) : Type 0 where
    pub truth_ : Bool
    pub is : guard_at (world level d defs) (loc_at at) ≡ Some (truth truth_)
    pub term : term_value F ins (guard_term (term_world level d) at) ≡ shown (truth truth_)

  pub guard_shown : Holds d defs ins level → (at : Place) → AtFits at → GuardShown at
  guard_shown h at fits =
      let r = fits.0 in
      let w = world level d defs in
      let env = bind_terms r.params at.values in
      let b = bound_are F ins r.params at.values fits.2 in
      let g = truth_shown F ins (value (context d defs) (env_of F ins env) [] r.guard) (term_of (term_context d) env [] r.guard) (h.guards r (h.roles at.role r fits.1) env b.1) in
      record {
        truth_ = g.truth_;
        is = (λ k. option_and_then (λ (x : Role). option_and_then (λ v. value w.context v [] x.guard) (bind x.params (numbers_of F ins at.values))) (fits.1 k)) ∙ ap (option_and_then (λ v. value w.context v [] r.guard)) b.0 ∙ g.is;
        term = ap (λ (o : Option Role). term_value F ins (elim o as (λ x. Term) [ None ↦ guard_term (record { context = term_context d; role = λ x. None }) at | Some x ↦ term_of (term_context d) (bind_terms x.params at.values) [] x.guard ])) fits.1 ∙ g.term;
      }
