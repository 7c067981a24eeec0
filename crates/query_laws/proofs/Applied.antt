-- What terms of expressions apply.
use Rattle.std.proofs.Common.{◌≡◌, ℕ, zero, suc, List, [], ◌∷◌, drop, length, reverse, take, Bool, true, false, Option, Some, None, if◌then◌else◌, refl, sym, ap, subst, ◌∙◌}
use Rattle.std.specs.Prelude.{slice_get}
use Rattle.std.specs.List.{AllZip}
use Rattle.std.proofs.lemmas.List.{length-reverse}
use Rattle.cocoon_num.specs.Names.{same_name}
use Rattle.cocoon_num.specs.Sorts.{Sort, bits_sort, truth_sort}
use Rattle.cocoon_num.specs.Tree.{Param, Expr, name, field, lit, true_or_false, call, unary, binary, slice, pick, Exprs, no_exprs, expr, FunctionDecl, HeaderDecl, Design}
use Rattle.cocoon_num.specs.Values.{BinaryOp, add, sub, bits_and, bits_or, bits_xor, concat, equal, unequal, less, less_equal, greater, greater_equal, and_, or_, implies}
use Rattle.cocoon_types.specs.Design.{functions, widths_of}
use Rattle.cocoon_types.specs.Rules.{WellFormed}
use Rattle.cocoon_types.specs.Typing.{Scope, result_sort}
use Rattle.bv_terms.specs.TermTrees.{Term, arg_widths}
use Rattle.sound_types.specs.Literals.{DesignLiteralsFit}
use Rattle.sound_types.specs.WellTyped.{scope_in}
use Rattle.sound_types.proofs.Declared.{names_differ, typed_bodies}
use Rattle.sound_types.proofs.Functions.{AreTypedBodies, NamesDiffer}
use Rattle.sound_types.proofs.Members.{at_place}
use Rattle.obligation_laws.specs.TermOf.{TermContext, TermEnv, args_of, binary_term, bind_terms, call_in, field_term, term_context, term_in, term_of, terms_of, variable_term}
use Rattle.obligation_laws.specs.TypedExprs.{TypedAll, TypedAs}
use Rattle.obligation_laws.specs.Shown.{HasWidth}
use Rattle.obligation_laws.proofs.InFunctions.{HoldsNext, HoldsOf, all_hold}
use Rattle.obligation_laws.proofs.Typings.{everywhere, typed_everywhere}
use Rattle.obligation_laws.proofs.ExprWidths.{Call, IsWide, SeesWidths, StandsAfter, call_steps, called, calls_wide, first_calls_wide, own_call, params_are, stands_after, term_widths}
use Rattle.query_laws.specs.Over.{AllOver, AreOver, IsOver, TermsAreOver, VariablesOver}

module _ (d : Design) (inputs : ℕ → ℕ → Bool) where
  -- ---- variables and fields

  over_either : (b : Bool) (t u : Term) → IsOver d inputs t → IsOver d inputs u → IsOver d inputs (if b then t else u)
  over_either true t u h k = h
  over_either false t u h k = k

  variable_over : (vars : TermEnv) → VariablesOver d inputs vars → (x : List ℕ) → IsOver d inputs (variable_term vars x)
  variable_over [] h x = tt
  variable_over (v ∷ vars) h x = over_either (same_name x v.0) v.1 (variable_term vars x) h.0 (variable_over vars h.1 x)

  in_header_over : (ps : List Param) (ts : List Term) → AllOver d inputs ts → (f : List ℕ) → IsOver d inputs (term_in ps ts f)
  in_header_over [] [] h f = tt
  in_header_over [] (t ∷ ts) h f = tt
  in_header_over (p ∷ ps) [] h f = tt
  in_header_over (p ∷ ps) (t ∷ ts) h f = over_either (same_name f p.name.text) t (term_in ps ts f) h.0 (in_header_over ps ts h.1 f)

  rest_over : (n : ℕ) (ts : List Term) → AllOver d inputs ts → AllOver d inputs (drop n ts)
  rest_over zero ts h = h
  rest_over (suc n) [] h = tt
  rest_over (suc n) (t ∷ ts) h = rest_over n ts h.1

  field_over : (hs : List HeaderDecl) (ts : List Term) → AllOver d inputs ts → (h f : List ℕ) → IsOver d inputs (field_term hs ts h f)
  field_over [] ts k h f = tt
  field_over (x ∷ hs) ts k h f =
      over_either (same_name h x.name.text) (term_in x.fields ts f) (field_term hs (drop (length x.fields) ts) h f) (in_header_over x.fields ts k f)
      (field_over hs (drop (length x.fields) ts) (rest_over (length x.fields) ts k) h f)

  -- ---- expressions

  binary_over : (op : BinaryOp) (a b : Term) → IsOver d inputs a → IsOver d inputs b → IsOver d inputs (binary_term op a b)
  binary_over add a b h k = (h, k)
  binary_over sub a b h k = (h, k)
  binary_over bits_and a b h k = (h, k)
  binary_over bits_or a b h k = (h, k)
  binary_over bits_xor a b h k = (h, k)
  binary_over concat a b h k = (h, k)
  binary_over equal a b h k = (h, k)
  binary_over unequal a b h k = (h, k)
  binary_over less a b h k = (h, k)
  binary_over less_equal a b h k = (k, h)
  binary_over greater a b h k = (k, h)
  binary_over greater_equal a b h k = (h, k)
  binary_over and_ a b h k = (h, k)
  binary_over or_ a b h k = (h, k)
  binary_over implies a b h k = (h, k)

  -- a call at terms of the widths of the parameters
  abbrev pub IsOverCall : FunctionDecl → Call → Type 0
  IsOverCall g f = (ts : List Term) → AllZip HasWidth (widths_of g.params) ts → AllOver d inputs ts → IsOver d inputs (f ts)

  pub record SeesOver (s : Scope) (c : TermContext) (vars : TermEnv) (fields : List Term) : Type 0 where
    pub widths : SeesWidths s c vars fields
    pub variables : VariablesOver d inputs vars
    pub fields_over : AllOver d inputs fields
    pub calls : HoldsOf IsOverCall s.before c.call

  mutual
    pub term_over : (s : Scope) (c : TermContext) (vars : TermEnv) (fields : List Term) → SeesOver s c vars fields → (e : Expr) (t : Sort) → TypedAs s t e → IsOver d inputs (term_of c vars fields e)
    term_over s c vars fields sees (name at x) t h = variable_over vars sees.variables x
    term_over s c vars fields sees (field at x f) t h = field_over c.headers fields sees.fields_over x.text f.text
    term_over s c vars fields sees (lit at w n) t h = tt
    term_over s c vars fields sees (true_or_false at b) t h = tt
    term_over s c vars fields sees (call at f es) t h =
        subst (λ x. IsOver d inputs (c.call x (terms_of c vars fields es))) (sym h.1.name)
        (sees.calls h.0 (at_place s.before h.1.number h.0 h.1.there) (terms_of c vars fields es)
        (term_widths s c vars fields sees.widths es (widths_of h.0.params) h.2) (terms_over s c vars fields sees es (widths_of h.0.params) h.2))
    term_over s c vars fields sees (unary at op a) t h = term_over s c vars fields sees a h.0 h.1
    term_over s c vars fields sees (binary at op a b) t h =
        binary_over op (term_of c vars fields a) (term_of c vars fields b) (term_over s c vars fields sees a h.0 h.2) (term_over s c vars fields sees b h.1 h.3)
    term_over s c vars fields sees (slice at a high low) t h = term_over s c vars fields sees a h.0 h.1
    term_over s c vars fields sees (pick at x a b) t h =
        (term_over s c vars fields sees x truth_sort h.0, term_over s c vars fields sees a t h.1, term_over s c vars fields sees b t h.2)

    terms_over : (s : Scope) (c : TermContext) (vars : TermEnv) (fields : List Term) → SeesOver s c vars fields → (es : Exprs) (ws : List ℕ) → TypedAll s ws es → AllOver d inputs (terms_of c vars fields es)
    terms_over s c vars fields sees no_exprs [] h = tt
    terms_over s c vars fields sees no_exprs (w ∷ ws) h = absurd h
    terms_over s c vars fields sees (expr e es) [] h = absurd h
    terms_over s c vars fields sees (expr e es) (w ∷ ws) h = (term_over s c vars fields sees e (bits_sort w) h.0, terms_over s c vars fields sees es ws h.1)

  -- ---- functions

  args_over : (ts : List Term) → AllOver d inputs ts → AreOver d inputs (args_of ts)
  args_over [] h = tt
  args_over (t ∷ ts) h = (h.0, args_over ts h.1)

  args_wide : (ws : List ℕ) (ts : List Term) → AllZip HasWidth ws ts → arg_widths (args_of ts) ≡ ws
  args_wide [] [] h = refl
  args_wide [] (t ∷ ts) h = absurd h
  args_wide (w ∷ ws) [] h = absurd h
  args_wide (w ∷ ws) (t ∷ ts) h = λ i. h.0 i ∷ args_wide ws ts h.1 i

  pub bound_over : (ps : List Param) (ts : List Term) → AllOver d inputs ts → VariablesOver d inputs (bind_terms ps ts)
  bound_over [] [] h = tt
  bound_over [] (t ∷ ts) h = tt
  bound_over (p ∷ ps) [] h = tt
  bound_over (p ∷ ps) (t ∷ ts) h = (h.0, bound_over ps ts h.1)

  over_next : (w : WellFormed d) → DesignLiteralsFit d → NamesDiffer d → AreTypedBodies d [] (functions d) → HoldsNext IsOverCall own_call call_in d
  over_next w l differ typed before g rest all have ts fit over = by g.body refl
    where
      at : StandsAfter d before g
      at = stands_after d differ typed before g rest all

      first : HoldsOf IsWide (take (length before) (functions d)) (call_in (reverse before))
      first = subst (λ fs. HoldsOf IsWide (take (length before) (functions d)) (call_in (reverse fs))) at.first (first_calls_wide d w l (length before))

      by : (o : Option Expr) → g.body ≡ o → IsOver d inputs (called (call_in (reverse before)) (length (reverse before)) g ts o)
      by None is = (
        args_over ts over,
        record {
          function = g;
          there = ap (slice_get (functions d)) (length-reverse before) ∙ at.there;
          runtime = is;
          params_are = args_wide (widths_of g.params) ts fit;
          result_is = refl;
        },
      )
      by (Some e) is =
          term_over (scope_in d (length before) g.params) (record { headers = []; call = call_in (reverse before) }) (bind_terms g.params ts) []
          (record {
            widths = record {
              scope = record { variables = params_are g.params ts fit; fields_fit = λ no. absurd (cc) };
              headers = λ no. absurd (cc);
              calls = first;
            };
            variables = bound_over g.params ts over;
            fields_over = tt;
            calls = subst (λ fs. HoldsOf IsOverCall fs (call_in (reverse before))) (sym at.first) have;
          }) e (result_sort g.result) (at.typed e is)

  pub calls_over : WellFormed d → DesignLiteralsFit d → HoldsOf IsOverCall (functions d) (call_in (reverse (functions d)))
  calls_over w l = all_hold IsOverCall own_call call_in d (names_differ d w) call_steps (over_next w l (names_differ d w) (typed_bodies d w l))

headers_are : (s : Scope) (d : Design) → s.design ≡ d → d.headers ≡ s.design.headers
headers_are s d e = ap (λ (x : Design). x.headers) (sym e)

pub terms_are_over : (d : Design) → WellFormed d → DesignLiteralsFit d → TermsAreOver d
terms_are_over d w l = λ s vars fields is fits inputs variables over t e h.
    term_over d inputs (everywhere s) (term_context d) vars fields
    (record {
      widths = record {
        scope = record { variables = fits.variables; fields_fit = fits.fields_fit };
        headers = λ p. headers_are s d is;
        calls = subst (λ (x : Design). HoldsOf IsWide (functions x) (call_in (reverse (functions d)))) (sym is) (calls_wide d w l);
      };
      variables = variables;
      fields_over = over;
      calls = subst (λ (x : Design). HoldsOf (IsOverCall d inputs) (functions x) (call_in (reverse (functions d)))) (sym is) (calls_over d inputs w l);
    }) e t (typed_everywhere s t e h)
