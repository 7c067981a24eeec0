-- The laws on terms of expressions, put together.
use Rattle.std.proofs.Common.{◌≡◌, ℕ, List, [], take, drop, reverse, true, Some, sym, ap, subst, ◌∙◌}
use Rattle.std.specs.Prelude.{slice_get}
use Rattle.std.proofs.lemmas.List.{take-append-drop}
use Rattle.cocoon_num.specs.Packets.{Packet}
use Rattle.cocoon_num.specs.Sorts.{Sort}
use Rattle.cocoon_num.specs.Tree.{Expr, Exprs, FunctionDecl, HeaderDecl, Design}
use Rattle.cocoon_types.specs.Design.{functions}
use Rattle.cocoon_types.specs.Rules.{WellFormed}
use Rattle.cocoon_types.specs.Tables.{Defs}
use Rattle.cocoon_types.specs.Typing.{Scope, result_sort}
use Rattle.cocoon_types.specs.Val.{context}
use Rattle.bv_terms.specs.TermTrees.{Term}
use Rattle.bv_terms.specs.TermValues.{Functions, Inputs, term_number}
use Rattle.sound_types.specs.Literals.{DesignLiteralsFit}
use Rattle.sound_types.specs.WellTyped.{scope_in}
use Rattle.sound_types.proofs.Declared.{names_differ, typed_bodies}
use Rattle.sound_types.proofs.Functions.{typed_at}
use Rattle.sound_types.proofs.Members.{In, in_left}
use Rattle.obligation_laws.specs.TermOf.{TermEnv, call_in, term_context, terms_of}
use Rattle.obligation_laws.specs.TypedExprs.{TypedAs}
use Rattle.obligation_laws.specs.Shown.{TermsHaveValues, TermsHaveWidths, ValuesFit, env_of, functions_by, packet_in}
use Rattle.obligation_laws.proofs.InFunctions.{HoldsOf}
use Rattle.obligation_laws.proofs.Typings.{all_typed_everywhere, everywhere, typed_body, typed_everywhere}
use Rattle.obligation_laws.proofs.ExprValues.{CallShown, RowsFit, SeesValues, both_in, calls_shown, numbers_are, value_shown, values_shown}
use Rattle.obligation_laws.proofs.ExprWidths.{IsWide, calls_wide, term_width}

pub body_is_typed : (d : Design) → WellFormed d → DesignLiteralsFit d → (n : ℕ) (f : FunctionDecl) (e : Expr) → slice_get (functions d) n ≡ Some f → f.body ≡ Some e → TypedAs (scope_in d n f.params) (result_sort f.result) e
body_is_typed d w l n f e at is =
    typed_body d n f e (names_differ d w) (λ x i. subst (In x) (take-append-drop n (functions d)) (in_left x (take n (functions d)) (drop n (functions d)) i))
    (typed_at d [] (functions d) n f (typed_bodies d w l) at) is

headers_are : (s : Scope) (d : Design) → s.design ≡ d → d.headers ≡ s.design.headers
headers_are s d e = ap (λ (x : Design). x.headers) (sym e)

pub widths_are : (d : Design) → WellFormed d → DesignLiteralsFit d → TermsHaveWidths d
widths_are d w l = λ s vars fields is fits t e h.
    term_width (everywhere s) (term_context d) vars fields
    (record {
      scope = record { variables = fits.variables; fields_fit = fits.fields_fit };
      headers = λ p. headers_are s d is;
      calls = subst (λ (x : Design). HoldsOf IsWide (functions x) (call_in (reverse (functions d)))) (sym is) (calls_wide d w l);
    }) e t (typed_everywhere s t e h)

pub values_are : (d : Design) (defs : Defs) → WellFormed d → DesignLiteralsFit d → RowsFit d defs → (s : Scope) → s.design ≡ d → (ins : Inputs) (vars : TermEnv) (fields : List Term)
    → ValuesFit s (functions_by d defs) ins vars fields → TermsHaveValues d defs ins s vars fields
values_are d defs w l rows s is ins vars fields fits = record {
  values = λ t e h.
      let r = value_shown (everywhere s) (context d defs) (term_context d) F ins vars fields packet sees e t (typed_everywhere s t e h) in
      r.term ∙ sym (ap term_number r.is);
  numbers = λ ws es h.
      let r = values_shown (everywhere s) (context d defs) (term_context d) F ins vars fields packet sees es ws (all_typed_everywhere s ws es h) in
      ap Some (numbers_are F ins ws (terms_of (term_context d) vars fields es) r.0 r.2) ∙ sym r.1;
}
  where
    F : Functions
    F = functions_by d defs

    packet : Packet
    packet = packet_in F ins d.headers fields

    sees : SeesValues (everywhere s) (context d defs) (term_context d) F ins vars fields packet
    sees = record {
      fits = record { variables = fits.variables; fields_fit = fits.fields_fit };
      headers = λ p. (headers_are s d is, headers_are s d is);
      packet_is = λ p. ap (λ hs. packet_in F ins hs fields) (headers_are s d is);
      calls = subst (λ (x : Design). HoldsOf (CallShown F ins) (functions x) (both_in d.headers defs (reverse (functions d)))) (sym is) (calls_shown d defs ins (names_differ d w) (typed_bodies d w l) rows);
    }
