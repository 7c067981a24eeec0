-- The term of a typed expression has the width of its type.
use Rattle.std.proofs.Common.{◌≡◌, ℕ, List, [], ◌∷◌, ◌++◌, length, reverse, take, true, false, Option, Some, None, refl, sym, ap, subst, ◌∙◌}
use Rattle.std.specs.Prelude.{slice_get}
use Rattle.std.specs.List.{AllZip}
use Rattle.cocoon_num.specs.Sorts.{Sort, bits_sort, truth_sort}
use Rattle.cocoon_num.specs.Tree.{Param, Expr, name, field, lit, true_or_false, call, unary, binary, slice, pick, Exprs, no_exprs, expr, ResultKind, of_width, of_truth, FunctionDecl, Design}
use Rattle.cocoon_types.specs.Design.{functions, widths_of}
use Rattle.cocoon_types.specs.Rules.{WellFormed}
use Rattle.cocoon_types.specs.Typing.{Scope, result_sort}
use Rattle.bv_terms.specs.TermTrees as term
use Rattle.bv_terms.specs.TermTrees.{Term}
use Rattle.sound_types.specs.Literals.{DesignLiteralsFit}
use Rattle.sound_types.specs.WellTyped.{scope_in}
use Rattle.sound_types.proofs.Declared.{names_differ, typed_bodies}
use Rattle.sound_types.proofs.Functions.{AreTypedBodies, NamesDiffer, typed_at}
use Rattle.sound_types.proofs.Members.{In, at_place, in_left, in_right}
use Rattle.obligation_laws.specs.TermOf.{TermContext, field_term, TermEnv, args_of, bind_terms, call_in, result_width, term_of, terms_of}
use Rattle.obligation_laws.specs.TypedExprs.{IsBefore, TypedAll, TypedAs}
use Rattle.obligation_laws.specs.Shown.{AreVariables, FitsScope, HasWidth, sort_width}
use Rattle.obligation_laws.proofs.InFunctions.{HoldsNext, HoldsOf, Steps, all_hold, first_hold, if_apply}
use Rattle.obligation_laws.proofs.Names.{field_has, variable_width}
use Rattle.obligation_laws.proofs.OperatorTerms.{binary_width, slice_width, unary_width}
use Rattle.obligation_laws.proofs.Typings.{typed_body}

-- ---- calls

abbrev pub Call : Type 0
Call = List Term → Term

-- a call of a function, by those before it: of its number, or of its body
abbrev pub called : (List ℕ → Call) → (number : ℕ) → FunctionDecl → List Term → Option Expr → Term
called before number g ts None = term.apply number (args_of ts) (result_width g.result)
called before number g ts (Some e) = term_of (record { headers = []; call = before }) (bind_terms g.params ts) [] e

abbrev pub own_call : FunctionDecl → List FunctionDecl → List ℕ → Call
own_call g earlier f ts = called (call_in earlier) (length earlier) g ts g.body

pub call_steps : Steps own_call call_in
call_steps = record { step = λ g earlier f. if_apply _ (own_call g earlier f) (call_in earlier f) }

-- at terms of the widths of its parameters a call has the width of its result
abbrev pub IsWide : FunctionDecl → Call → Type 0
IsWide g f = (ts : List Term) → AllZip HasWidth (widths_of g.params) ts → HasWidth (sort_width (result_sort g.result)) (f ts)

-- ---- expressions

pub record SeesWidths (s : Scope) (c : TermContext) (vars : TermEnv) (fields : List Term) : Type 0 where
  pub scope : FitsScope s vars fields
  pub headers : s.packet ≡ true → c.headers ≡ s.design.headers
  pub calls : HoldsOf IsWide s.before c.call

mutual
  pub term_width : (s : Scope) (c : TermContext) (vars : TermEnv) (fields : List Term) → SeesWidths s c vars fields → (e : Expr) (t : Sort) → TypedAs s t e → HasWidth (sort_width t) (term_of c vars fields e)
  term_width s c vars fields sees (name at x) t h = variable_width s.vars vars sees.scope.variables x h.0 h.1 ∙ sym (ap sort_width h.2)
  term_width s c vars fields sees (field at x f) t h =
      subst (λ hs. HasWidth (sort_width t) (field_term hs fields x.text f.text)) (sym (sees.headers h.1))
      (field_has HasWidth s.design.headers fields (sees.scope.fields_fit h.1) x.text f.text h.0 h.2 ∙ sym (ap sort_width h.3))
  term_width s c vars fields sees (lit at w n) t h = sym (ap sort_width h.1)
  term_width s c vars fields sees (true_or_false at b) t h = sym (ap sort_width h)
  term_width s c vars fields sees (call at f es) t h =
      let at = h.1 in
      subst (λ x. HasWidth (sort_width t) (c.call x (terms_of c vars fields es))) (sym at.name)
      (sees.calls h.0 (at_place s.before at.number h.0 at.there) (terms_of c vars fields es) (term_widths s c vars fields sees es (widths_of h.0.params) h.2) ∙ sym (ap sort_width h.3))
  term_width s c vars fields sees (unary at op a) t h = unary_width op h.0 t (term_of c vars fields a) h.2 (term_width s c vars fields sees a h.0 h.1)
  term_width s c vars fields sees (binary at op a b) t h =
      binary_width op h.0 h.1 t (term_of c vars fields a) (term_of c vars fields b) h.4 (term_width s c vars fields sees a h.0 h.2) (term_width s c vars fields sees b h.1 h.3)
  term_width s c vars fields sees (slice at a high low) t h = slice_width h.0 t high low (term_of c vars fields a) h.2
  term_width s c vars fields sees (pick at x a b) t h = term_width s c vars fields sees a t h.1

  pub term_widths : (s : Scope) (c : TermContext) (vars : TermEnv) (fields : List Term) → SeesWidths s c vars fields → (es : Exprs) (ws : List ℕ) → TypedAll s ws es → AllZip HasWidth ws (terms_of c vars fields es)
  term_widths s c vars fields sees no_exprs [] h = tt
  term_widths s c vars fields sees no_exprs (w ∷ ws) h = absurd h
  term_widths s c vars fields sees (expr e es) [] h = absurd h
  term_widths s c vars fields sees (expr e es) (w ∷ ws) h = (term_width s c vars fields sees e (bits_sort w) h.0, term_widths s c vars fields sees es ws h.1)

-- ---- functions

pub params_are : (ps : List Param) (ts : List Term) → AllZip HasWidth (widths_of ps) ts → AreVariables ps (bind_terms ps ts)
params_are [] [] h = tt
params_are [] (t ∷ ts) h = absurd h
params_are (p ∷ ps) [] h = absurd h
params_are (p ∷ ps) (t ∷ ts) h = (refl, h.0, params_are ps ts h.1)

result_is : (k : ResultKind) → result_width k ≡ sort_width (result_sort k)
result_is (of_width w) = refl
result_is of_truth = refl

-- where a function stands
pub before_is : {A : Type 0} (before rest : List A) → take (length before) (before ++ rest) ≡ before
before_is [] rest = refl
before_is (x ∷ before) rest = ap (λ xs. x ∷ xs) (before_is before rest)

pub next_is : {A : Type 0} (before : List A) (x : A) (rest : List A) → slice_get (before ++ x ∷ rest) (length before) ≡ Some x
next_is [] x rest = refl
next_is (y ∷ before) x rest = next_is before x rest

-- a body sees the functions before its own
pub record StandsAfter (d : Design) (before : List FunctionDecl) (g : FunctionDecl) : Type 0 where
  pub first : take (length before) (functions d) ≡ before
  pub there : slice_get (functions d) (length before) ≡ Some g
  pub typed : (e : Expr) → g.body ≡ Some e → TypedAs (scope_in d (length before) g.params) (result_sort g.result) e

pub stands_after : (d : Design) → NamesDiffer d → AreTypedBodies d [] (functions d) → (before : List FunctionDecl) (g : FunctionDecl) (rest : List FunctionDecl) → before ++ g ∷ rest ≡ functions d → StandsAfter d before g
stands_after d differ typed before g rest all =
    let n = length before in
    let first : take n (functions d) ≡ before = ap (take n) (sym all) ∙ before_is before (g ∷ rest) in
    let there : slice_get (functions d) n ≡ Some g = ap (λ fs. slice_get fs n) (sym all) ∙ next_is before g rest in
    record {
      first = first;
      there = there;
      typed = λ e is.
          typed_body d n g e differ (λ x i. subst (In x) all (in_left x before (g ∷ rest) (subst (In x) first i)))
          (typed_at d [] (functions d) n g typed there) is;
    }

wide_next : (d : Design) → NamesDiffer d → AreTypedBodies d [] (functions d) → HoldsNext IsWide own_call call_in d
wide_next d differ typed before g rest all have ts fit = by g.body refl
  where
    at : StandsAfter d before g
    at = stands_after d differ typed before g rest all

    by : (o : Option Expr) → g.body ≡ o → HasWidth (sort_width (result_sort g.result)) (called (call_in (reverse before)) (length (reverse before)) g ts o)
    by None is = result_is g.result
    by (Some e) is =
        term_width (scope_in d (length before) g.params) (record { headers = []; call = call_in (reverse before) }) (bind_terms g.params ts) []
        (record {
          scope = record { variables = params_are g.params ts fit; fields_fit = λ no. absurd (cc) };
          headers = λ no. absurd (cc);
          calls = subst (λ fs. HoldsOf IsWide fs (call_in (reverse before))) (sym at.first) have;
        }) e (result_sort g.result) (at.typed e is)

pub calls_wide : (d : Design) → WellFormed d → DesignLiteralsFit d → HoldsOf IsWide (functions d) (call_in (reverse (functions d)))
calls_wide d w l = all_hold IsWide own_call call_in d (names_differ d w) call_steps (wide_next d (names_differ d w) (typed_bodies d w l))

pub first_calls_wide : (d : Design) → WellFormed d → DesignLiteralsFit d → (n : ℕ) → HoldsOf IsWide (take n (functions d)) (call_in (reverse (take n (functions d))))
first_calls_wide d w l n = first_hold IsWide own_call call_in d (names_differ d w) call_steps (wide_next d (names_differ d w) (typed_bodies d w l)) n
