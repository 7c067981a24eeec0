-- The term of a typed expression has the value of the expression.
use Rattle.std.proofs.Common.{◌≡◌, inl, ℕ, ◌<◌, ◌^◌, List, [], ◌∷◌, ◌++◌, length, reverse, take, Bool, true, false, Option, Some, None, if◌then◌else◌, option_and_then, option_map, refl, sym, ap, subst, ◌∙◌}
use Rattle.std.specs.Prelude.{slice_get}
use Rattle.std.proofs.lemmas.Bool.{lt-ltb}
use Rattle.std.proofs.lemmas.List.{length-reverse}
use Rattle.cocoon_num.specs.Names.{same_name}
use Rattle.cocoon_num.specs.PacketForms.{FieldsFit}
use Rattle.cocoon_num.specs.Packets.{Packet}
use Rattle.cocoon_num.specs.Sorts.{Sort, bits_sort, truth_sort}
use Rattle.cocoon_num.specs.Tree.{Param, Expr, name, field, lit, true_or_false, call, unary, binary, slice, pick, Exprs, no_exprs, expr, ResultKind, of_width, of_truth, FunctionDecl, HeaderDecl, Design}
use Rattle.cocoon_num.specs.Values.{Value, number, truth, as_number, apply_binary, apply_pick, apply_slice, apply_unary, with_all, with_both}
use Rattle.cocoon_types.specs.Design.{functions, read_field, widths_of}
use Rattle.cocoon_types.specs.Tables.{Defs, look_up}
use Rattle.cocoon_types.specs.Typing.{Scope, result_sort}
use Rattle.cocoon_types.specs.Val.{Context, Env, apply, apply_in, bind, bound, numbers, value, variable}
use Rattle.bv_terms.specs.TermTrees as term
use Rattle.bv_terms.specs.TermTrees.{Term}
use Rattle.bv_terms.specs.TermValues.{Functions, Inputs, arg_numbers, number_in, term_number, term_value}
use Rattle.sound_types.specs.Matching.{Binds, HasValue, IsOfSort}
use Rattle.sound_types.specs.WellTyped.{scope_in}
use Rattle.sound_types.proofs.Functions.{AreTypedBodies, NamesDiffer, by_body}
use Rattle.sound_types.proofs.Members.{In, at_place, in_right}
use Rattle.sound_types.proofs.Operators.{binary_value, slice_value, unary_value}
use Rattle.sound_types.proofs.Values.{value_there}
use Rattle.sound_types.proofs.Variables.{variable_value}
use Rattle.obligation_laws.specs.TermOf.{TermContext, TermEnv, args_of, binary_term, bind_terms, call_in, field_term, result_width, term_of, terms_of, truth_term, variable_term}
use Rattle.obligation_laws.specs.TypedExprs.{TypedAll, TypedAs}
use Rattle.obligation_laws.specs.Shown.{HasNumber, ValuesFit, env_of, functions_by, numbers_of, packet_in}
use Rattle.obligation_laws.proofs.InFunctions.{HoldsNext, HoldsOf, Steps, all_hold, if_apply, if_both}
use Rattle.obligation_laws.proofs.Names.{field_has, field_shown, variable_shown}
use Rattle.obligation_laws.proofs.OperatorTerms.{binary_shown, pick_shown, shown, slice_shown, unary_shown}
use Rattle.obligation_laws.proofs.ExprWidths.{Call, StandsAfter, called, own_call, stands_after}

-- there is a value of the type, and the term has it
pub record ShownAs (F : Functions) (ins : Inputs) (t : Sort) (o : Option Value) (u : Term) : Type 0 where
  pub value : Value
  pub is : o ≡ Some value
  pub sort : IsOfSort t value
  pub term : term_value F ins u ≡ shown value

-- the terms have these numbers, which fit the widths
abbrev pub AreNumbers : Functions → Inputs → List ℕ → List Term → List ℕ → Type 0
AreNumbers F ins [] [] [] = Unit {0}
AreNumbers F ins (w ∷ ws) (t ∷ ts) (n ∷ ns) = (term_value F ins t ≡ number w n) × (n < 2 ^ w) × AreNumbers F ins ws ts ns
AreNumbers F ins _ _ _ = ⊥

-- a call has the function's value
abbrev pub CallShown : Functions → Inputs → FunctionDecl → Call × (List ℕ → Option Value) → Type 0
CallShown F ins g f = (ts : List Term) (ns : List ℕ) → AreNumbers F ins (widths_of g.params) ts ns → ShownAs F ins (result_sort g.result) (f.1 ns) (f.0 ts)

pub record SeesValues (s : Scope) (v : Context) (c : TermContext) (F : Functions) (ins : Inputs) (vars : TermEnv) (fields : List Term) (packet : Packet) : Type 0 where
  pub fits : ValuesFit s F ins vars fields
  pub headers : s.packet ≡ true → (c.headers ≡ s.design.headers) × (v.headers ≡ s.design.headers)
  pub packet_is : s.packet ≡ true → packet ≡ packet_in F ins s.design.headers fields
  pub calls : HoldsOf (CallShown F ins) s.before (λ f. (c.call f, v.apply f))

-- ---- values that are there

from : (F : Functions) (ins : Inputs) (t : Sort) (o : Option Value) (u : Term) → HasValue t o → term_value F ins u ≡ term_number o → ShownAs F ins t o u
from F ins t o u h e = let v = value_there t o h in record { value = v.0; is = v.1; sort = v.2; term = e ∙ ap term_number v.1 }

-- through what gives the value
over : (F : Functions) (ins : Inputs) (t : Sort) (o r : Option Value) (u : Term) → o ≡ r → HasValue t r → term_value F ins u ≡ term_number r → ShownAs F ins t o u
over F ins t o r u e h k = from F ins t o u (subst (HasValue t) (sym e) h) (k ∙ sym (ap term_number e))

number_shown : (w : ℕ) (v : Value) → IsOfSort (bits_sort w) v → v ≡ shown v
number_shown w (number x n) h = refl
number_shown w (truth b) h = absurd h

named_value : (F : Functions) (ins : Inputs) (t : Sort) (w : ℕ) (o : Option Value) (u : Term) → t ≡ bits_sort w → o ≡ Some (term_value F ins u) → IsOfSort (bits_sort w) (term_value F ins u) → ShownAs F ins t o u
named_value F ins t w o u s e h = record { value = term_value F ins u; is = e; sort = subst (λ z. IsOfSort z (term_value F ins u)) (sym s) h; term = number_shown w (term_value F ins u) h }

argument : (F : Functions) (ins : Inputs) (w : ℕ) (o : Option Value) (u : Term) → ShownAs F ins (bits_sort w) o u → (n : ℕ) × (option_and_then as_number o ≡ Some n) × (term_value F ins u ≡ number w n) × (n < 2 ^ w)
argument F ins w o u h = by h.value h.is h.sort h.term
  where
    by : (v : Value) → o ≡ Some v → IsOfSort (bits_sort w) v → term_value F ins u ≡ shown v → (n : ℕ) × (option_and_then as_number o ≡ Some n) × (term_value F ins u ≡ number w n) × (n < 2 ^ w)
    by (number x n) e s t = (n, ap (option_and_then as_number) e, t ∙ ap (λ y. number y n) s.0, s.1)
    by (truth b) e s t = absurd s

either : (b : Bool) (t : Sort) (x y : Value) → IsOfSort t x → IsOfSort t y → IsOfSort t (if b then x else y)
either true t x y p q = p
either false t x y p q = q

picked : (t : Sort) (z x y : Value) → IsOfSort truth_sort z → IsOfSort t x → IsOfSort t y → HasValue t (apply_pick z x y)
picked t (number w n) x y o p q = absurd o
picked t (truth b) x y o p q = either b t x y p q

mutual
  pub value_shown : (s : Scope) (v : Context) (c : TermContext) (F : Functions) (ins : Inputs) (vars : TermEnv) (fields : List Term) (packet : Packet) → SeesValues s v c F ins vars fields packet
      → (e : Expr) (t : Sort) → TypedAs s t e → ShownAs F ins t (value v (env_of F ins vars) packet e) (term_of c vars fields e)
  value_shown s v c F ins vars fields packet sees (name at x) t h =
      let there = variable_value s.vars (env_of F ins vars) sees.fits.variables x h.0 h.1 in
      let is = variable_shown F ins vars x h.0 there in
      named_value F ins t h.0 (variable (env_of F ins vars) x) (variable_term vars x) h.2 is (subst (HasValue (bits_sort h.0)) is there)
  value_shown s v c F ins vars fields packet sees (field at x f) t h =
      let hs = s.design.headers in
      let fit = sees.fits.fields_fit h.1 in
      let read : read_field v.headers packet x.text f.text ≡ read_field hs (packet_in F ins hs fields) x.text f.text = λ i. read_field ((sees.headers h.1).1 i) (sees.packet_is h.1 i) x.text f.text in
      subst (λ ds. ShownAs F ins t (read_field v.headers packet x.text f.text) (field_term ds fields x.text f.text)) (sym (sees.headers h.1).0)
      (named_value F ins t h.0 (read_field v.headers packet x.text f.text) (field_term hs fields x.text f.text) h.3 (read ∙ field_shown F ins hs fields fit x.text f.text h.0 h.2)
      (field_has (HasNumber F ins) hs fields fit x.text f.text h.0 h.2))
  value_shown s v c F ins vars fields packet sees (lit at w n) t h =
      subst (λ z. ShownAs F ins z (Some (number w n)) (term.constant w n)) (sym h.1) (record { value = number w n; is = refl; sort = (refl, h.0); term = refl })
  value_shown s v c F ins vars fields packet sees (true_or_false at b) t h =
      subst (λ z. ShownAs F ins z (Some (truth b)) (truth_term b)) (sym h) (record { value = truth b; is = refl; sort = tt; term = refl })
  value_shown s v c F ins vars fields packet sees (call at f es) t h =
      let g = h.0 in
      let ns = values_shown s v c F ins vars fields packet sees es (widths_of g.params) h.2 in
      let ts = terms_of c vars fields es in
      let of : ShownAs F ins (result_sort g.result) (v.apply g.name.text ns.0) (c.call g.name.text ts) = sees.calls g (at_place s.before h.1.number g h.1.there) ts ns.0 ns.2 in
      let named : ShownAs F ins (result_sort g.result) (v.apply f.text ns.0) (c.call f.text ts) = subst (λ x. ShownAs F ins (result_sort g.result) (v.apply x ns.0) (c.call x ts)) (sym h.1.name) of in
      subst (λ o. ShownAs F ins t (option_and_then (v.apply f.text) o) (c.call f.text ts)) (sym ns.1) (subst (λ z. ShownAs F ins z (v.apply f.text ns.0) (c.call f.text ts)) (sym h.3) named)
  value_shown s v c F ins vars fields packet sees (unary at op a) t h =
      let x = value_shown s v c F ins vars fields packet sees a h.0 h.1 in
      over F ins t (option_and_then (apply_unary op) (value v (env_of F ins vars) packet a)) (apply_unary op x.value) (term.not_ (term_of c vars fields a))
      (ap (option_and_then (apply_unary op)) x.is) (unary_value op h.0 t x.value h.2 x.sort) (unary_shown F ins op h.0 t (term_of c vars fields a) x.value h.2 x.sort x.term)
  value_shown s v c F ins vars fields packet sees (binary at op a b) t h =
      let x = value_shown s v c F ins vars fields packet sees a h.0 h.2 in
      let y = value_shown s v c F ins vars fields packet sees b h.1 h.3 in
      over F ins t (with_both (apply_binary op) (value v (env_of F ins vars) packet a) (value v (env_of F ins vars) packet b)) (apply_binary op x.value y.value)
      (binary_term op (term_of c vars fields a) (term_of c vars fields b))
      (λ i. with_both (apply_binary op) (x.is i) (y.is i)) (binary_value op h.0 h.1 t x.value y.value h.4 x.sort y.sort)
      (binary_shown F ins op h.0 h.1 t (term_of c vars fields a) (term_of c vars fields b) x.value y.value h.4 x.sort y.sort x.term y.term)
  value_shown s v c F ins vars fields packet sees (slice at a high low) t h =
      let x = value_shown s v c F ins vars fields packet sees a h.0 h.1 in
      over F ins t (option_and_then (λ z. apply_slice z high low) (value v (env_of F ins vars) packet a)) (apply_slice x.value high low) (term.slice (term_of c vars fields a) high low)
      (ap (option_and_then (λ z. apply_slice z high low)) x.is) (slice_value h.0 t high low x.value h.2 x.sort) (slice_shown F ins h.0 t high low (term_of c vars fields a) x.value h.2 x.sort x.term)
  value_shown s v c F ins vars fields packet sees (pick at k a b) t h =
      let z = value_shown s v c F ins vars fields packet sees k truth_sort h.0 in
      let x = value_shown s v c F ins vars fields packet sees a t h.1 in
      let y = value_shown s v c F ins vars fields packet sees b t h.2 in
      over F ins t (with_all apply_pick (value v (env_of F ins vars) packet k) (value v (env_of F ins vars) packet a) (value v (env_of F ins vars) packet b)) (apply_pick z.value x.value y.value)
      (term.pick (term_of c vars fields k) (term_of c vars fields a) (term_of c vars fields b))
      (λ i. with_all apply_pick (z.is i) (x.is i) (y.is i)) (picked t z.value x.value y.value z.sort x.sort y.sort)
      (pick_shown F ins (term_of c vars fields k) (term_of c vars fields a) (term_of c vars fields b) z.value x.value y.value z.sort z.term x.term y.term)

  pub values_shown : (s : Scope) (v : Context) (c : TermContext) (F : Functions) (ins : Inputs) (vars : TermEnv) (fields : List Term) (packet : Packet) → SeesValues s v c F ins vars fields packet
      → (es : Exprs) (ws : List ℕ) → TypedAll s ws es → (ns : List ℕ) × (numbers v (env_of F ins vars) packet es ≡ Some ns) × AreNumbers F ins ws (terms_of c vars fields es) ns
  values_shown s v c F ins vars fields packet sees no_exprs [] h = ([], refl, tt)
  values_shown s v c F ins vars fields packet sees no_exprs (w ∷ ws) h = absurd h
  values_shown s v c F ins vars fields packet sees (expr e es) [] h = absurd h
  values_shown s v c F ins vars fields packet sees (expr e es) (w ∷ ws) h =
      let n = argument F ins w (value v (env_of F ins vars) packet e) (term_of c vars fields e) (value_shown s v c F ins vars fields packet sees e (bits_sort w) h.0) in
      let ns = values_shown s v c F ins vars fields packet sees es ws h.1 in
      (n.0 ∷ ns.0, (λ i. with_both (λ m ms. Some (m ∷ ms)) (n.1 i) (ns.1 i)), (n.2, n.3, ns.2))

-- ---- functions

arg_numbers_are : (F : Functions) (ins : Inputs) (ws : List ℕ) (ts : List Term) (ns : List ℕ) → AreNumbers F ins ws ts ns → arg_numbers F ins (args_of ts) ≡ ns
arg_numbers_are F ins [] [] [] h = refl
arg_numbers_are F ins [] [] (n ∷ ns) h = absurd h
arg_numbers_are F ins [] (t ∷ ts) ns h = absurd h
arg_numbers_are F ins (w ∷ ws) [] ns h = absurd h
arg_numbers_are F ins (w ∷ ws) (t ∷ ts) [] h = absurd h
arg_numbers_are F ins (w ∷ ws) (t ∷ ts) (n ∷ ns) h = λ i. number_in (h.0 i) ∷ arg_numbers_are F ins ws ts ns h.2 i

pub numbers_are : (F : Functions) (ins : Inputs) (ws : List ℕ) (ts : List Term) (ns : List ℕ) → AreNumbers F ins ws ts ns → numbers_of F ins ts ≡ ns
numbers_are F ins [] [] [] h = refl
numbers_are F ins [] [] (n ∷ ns) h = absurd h
numbers_are F ins [] (t ∷ ts) ns h = absurd h
numbers_are F ins (w ∷ ws) [] ns h = absurd h
numbers_are F ins (w ∷ ws) (t ∷ ts) [] h = absurd h
numbers_are F ins (w ∷ ws) (t ∷ ts) (n ∷ ns) h = λ i. number_in (h.0 i) ∷ numbers_are F ins ws ts ns h.2 i

numbers_fit : (F : Functions) (ins : Inputs) (ws : List ℕ) (ts : List Term) (ns : List ℕ) → AreNumbers F ins ws ts ns → FieldsFit ws ns
numbers_fit F ins [] [] [] h = tt
numbers_fit F ins [] [] (n ∷ ns) h = absurd h
numbers_fit F ins [] (t ∷ ts) ns h = absurd h
numbers_fit F ins (w ∷ ws) [] ns h = absurd h
numbers_fit F ins (w ∷ ws) (t ∷ ts) [] h = absurd h
numbers_fit F ins (w ∷ ws) (t ∷ ts) (n ∷ ns) h = (h.1, numbers_fit F ins ws ts ns h.2)

-- the parameters are bound to the values of the terms
bound_are : (F : Functions) (ins : Inputs) (ps : List Param) (ts : List Term) (ns : List ℕ) → AreNumbers F ins (widths_of ps) ts ns
    → (bind ps ns ≡ Some (env_of F ins (bind_terms ps ts))) × Binds ps (env_of F ins (bind_terms ps ts))
bound_are F ins [] [] [] h = (refl, tt)
bound_are F ins [] [] (n ∷ ns) h = absurd h
bound_are F ins [] (t ∷ ts) ns h = absurd h
bound_are F ins (p ∷ ps) [] ns h = absurd h
bound_are F ins (p ∷ ps) (t ∷ ts) [] h = absurd h
bound_are F ins (p ∷ ps) (t ∷ ts) (n ∷ ns) h =
    let r = bound_are F ins ps ts ns h.2 in (
      (λ i. if lt-ltb n (2 ^ p.width) h.1 i then option_map (bound p.name.text (number p.width n)) (r.0 i) else None)
          ∙ ap (λ v. Some (bound p.name.text v (env_of F ins (bind_terms ps ts)))) (sym h.0),
      (refl, subst (IsOfSort (bits_sort p.width)) (sym h.0) (refl, h.1), r.1),
    )

abbrev pub own_value : List HeaderDecl → Defs → FunctionDecl → List FunctionDecl → List ℕ → List ℕ → Option Value
own_value hs defs g earlier f ns = by_body (apply_in hs defs earlier) hs g ns (look_up defs f ns) g.body

abbrev pub own_both : List HeaderDecl → Defs → FunctionDecl → List FunctionDecl → List ℕ → Call × (List ℕ → Option Value)
own_both hs defs g earlier f = (own_call g earlier f, own_value hs defs g earlier f)

abbrev pub both_in : List HeaderDecl → Defs → List FunctionDecl → List ℕ → Call × (List ℕ → Option Value)
both_in hs defs fs f = (call_in fs f, apply_in hs defs fs f)

value_steps : (hs : List HeaderDecl) (defs : Defs) → Steps (own_value hs defs) (apply_in hs defs)
value_steps hs defs = record { step = λ g earlier f. if_apply (same_name f g.name.text) (own_value hs defs g earlier f) (apply_in hs defs earlier f) }

both_steps : (hs : List HeaderDecl) (defs : Defs) → Steps (own_both hs defs) (both_in hs defs)
both_steps hs defs = record {
  step = λ g earlier f.
      (λ i. (if_apply (same_name f g.name.text) (own_call g earlier f) (call_in earlier f) i, if_apply (same_name f g.name.text) (own_value hs defs g earlier f) (apply_in hs defs earlier f) i))
      ∙ if_both (same_name f g.name.text) (own_call g earlier f) (call_in earlier f) (own_value hs defs g earlier f) (apply_in hs defs earlier f);
}

-- a function that is defined at run time has the value of its rows
abbrev IsLookedUp : Defs → FunctionDecl → (List ℕ → Option Value) → Type 0
IsLookedUp defs g a = g.body ≡ None → (ns : List ℕ) → a ns ≡ look_up defs g.name.text ns

pub looked_up : (d : Design) (defs : Defs) → NamesDiffer d → (g : FunctionDecl) → In g (functions d) → g.body ≡ None → (ns : List ℕ) → apply d defs g.name.text ns ≡ look_up defs g.name.text ns
looked_up d defs differ =
    all_hold (IsLookedUp defs) (own_value d.headers defs) (apply_in d.headers defs) d differ (value_steps d.headers defs)
    (λ before g rest all have none ns. ap (by_body (apply_in d.headers defs (reverse before)) d.headers g ns (look_up defs g.name.text ns)) none)

-- what is looked up is of the function's type
abbrev pub RowsFit : Design → Defs → Type 0
RowsFit d defs = (g : FunctionDecl) → In g (functions d) → g.body ≡ None → (ns : List ℕ) → FieldsFit (widths_of g.params) ns → HasValue (result_sort g.result) (look_up defs g.name.text ns)

result_shown : (k : ResultKind) (v : Value) → IsOfSort (result_sort k) v → number (result_width k) (number_in (shown v)) ≡ shown v
result_shown (of_width w) (number x n) h = ap (λ y. number y n) (sym h.0)
result_shown (of_width w) (truth b) h = absurd h
result_shown of_truth (number x n) h = absurd h
result_shown of_truth (truth b) h = refl

next_shown : (d : Design) (defs : Defs) (ins : Inputs) → NamesDiffer d → AreTypedBodies d [] (functions d) → RowsFit d defs
    → HoldsNext (CallShown (functions_by d defs) ins) (own_both d.headers defs) (both_in d.headers defs) d
next_shown d defs ins differ typed rows before g rest all have ts ns are = by g.body refl
  where
    F : Functions
    F = functions_by d defs

    at : StandsAfter d before g
    at = stands_after d differ typed before g rest all

    within : In g (functions d)
    within = subst (In g) all (in_right g before (g ∷ rest) (inl refl))

    by : (o : Option Expr) → g.body ≡ o
        → ShownAs F ins (result_sort g.result) (by_body (apply_in d.headers defs (reverse before)) d.headers g ns (look_up defs g.name.text ns) o) (called (call_in (reverse before)) (length (reverse before)) g ts o)
    by None is =
        let v = value_there (result_sort g.result) (look_up defs g.name.text ns) (rows g within is ns (numbers_fit F ins (widths_of g.params) ts ns are)) in
        let place : slice_get (functions d) (length (reverse before)) ≡ Some g = ap (slice_get (functions d)) (length-reverse before) ∙ at.there in
        let looked : F (length (reverse before)) (arg_numbers F ins (args_of ts)) ≡ number_in (shown v.0) =
        (λ i. number_in (term_number (option_and_then (λ (x : FunctionDecl). look_up defs x.name.text (arg_numbers_are F ins (widths_of g.params) ts ns are i)) (place i))))
        ∙ ap (λ o. number_in (term_number o)) v.1 in
        record { value = v.0; is = v.1; sort = v.2; term = ap (number (result_width g.result)) looked ∙ result_shown g.result v.0 v.2 }
    by (Some e) is =
        let b = bound_are F ins g.params ts ns are in
        let hs = d.headers in
        let a = apply_in hs defs (reverse before) in
        subst (λ o. ShownAs F ins (result_sort g.result) (option_and_then (λ env. value (record { headers = hs; apply = a }) env [] e) o) (term_of (record { headers = []; call = call_in (reverse before) }) (bind_terms g.params ts) [] e))
        (sym b.0)
        (value_shown (scope_in d (length before) g.params) (record { headers = hs; apply = a }) (record { headers = []; call = call_in (reverse before) }) F ins (bind_terms g.params ts) [] []
        (record {
          fits = record { variables = b.1; fields_fit = λ no. absurd (cc) };
          headers = λ no. absurd (cc);
          packet_is = λ no. absurd (cc);
          calls = subst (λ fs. HoldsOf (CallShown F ins) fs (both_in hs defs (reverse before))) (sym at.first) have;
        }) e (result_sort g.result) (at.typed e is))

pub calls_shown : (d : Design) (defs : Defs) (ins : Inputs) → NamesDiffer d → AreTypedBodies d [] (functions d) → RowsFit d defs
    → HoldsOf (CallShown (functions_by d defs) ins) (functions d) (both_in d.headers defs (reverse (functions d)))
calls_shown d defs ins differ typed rows =
    all_hold (CallShown (functions_by d defs) ins) (own_both d.headers defs) (both_in d.headers defs) d differ (both_steps d.headers defs) (next_shown d defs ins differ typed rows)
