-- What a term over a design is made of.
use Rattle.std.proofs.Common.{◌≡◌, ℕ, ◌<◌, ◌^◌, Bool, true, false, List, [], ◌∷◌, Option, Some, None, sym, ap, subst, ◌∙◌, arith}
use Rattle.std.specs.Prelude.{option_and_then}
use Rattle.std.specs.List.{AllZip}
use Rattle.cocoon_num.specs.PacketForms.{FieldsFit}
use Rattle.cocoon_num.specs.Tree.{FunctionDecl, ResultKind, of_width, of_truth, Design}
use Rattle.cocoon_num.specs.Values.{FitsWidth, Value, number, truth}
use Rattle.cocoon_types.specs.Design.{functions, widths_of}
use Rattle.cocoon_types.specs.Tables.{Defs, look_up}
use Rattle.cocoon_types.specs.Typing.{result_sort}
use Rattle.bv_terms.specs.Inputs.{FunctionsFit, Mentions}
use Rattle.bv_terms.specs.TermTrees.{Term, Args, constant, input, apply, not_, binary, slice, pick, no_args, arg, arg_widths}
use Rattle.bv_terms.specs.TermValues.{number_in, term_number}
use Rattle.bv_terms.specs.Walks.{is_among, walk}
use Rattle.bv_terms.proofs.Subterms.{Each, EachArg, in-walk, walk-has}
use Rattle.sound_types.specs.Matching.{HasValue}
use Rattle.sound_types.proofs.Members.{at_place}
use Rattle.obligation_laws.specs.Shown.{functions_by}
use Rattle.obligation_laws.specs.TermOf.{result_width}
use Rattle.obligation_laws.proofs.ExprValues.{RowsFit}
use Rattle.query_laws.specs.Over.{AreOver, IsOver, IsRuntimeAt}
use Rattle.flat_laws.specs.Meant.{AppliesAlike}

module _ (d : Design) where
  -- at the root of the term
  abbrev pub OverHere : (ℕ → ℕ → Bool) → Term → Type 0
  OverHere inputs (constant w n) = Unit {0}
  OverHere inputs (input i w) = inputs i w ≡ true
  OverHere inputs (apply f args w) = IsRuntimeAt d f (arg_widths args) w
  OverHere inputs (not_ a) = Unit {0}
  OverHere inputs (binary op a b) = Unit {0}
  OverHere inputs (slice a high low) = Unit {0}
  OverHere inputs (pick c a b) = Unit {0}

  module _ (inputs : ℕ → ℕ → Bool) where
    mutual
      pub each-over : (t : Term) → IsOver d inputs t → Each (OverHere inputs) t
      each-over (constant w n) h = tt
      each-over (input i w) h = h
      each-over (apply f args w) h = (each-args-over args h.0, h.1)
      each-over (not_ a) h = (each-over a h, tt)
      each-over (binary op a b) h = (each-over a h.0, each-over b h.1, tt)
      each-over (slice a high low) h = (each-over a h, tt)
      each-over (pick c a b) h = (each-over c h.0, each-over a h.1, each-over b h.2, tt)

      pub each-args-over : (ts : Args) → AreOver d inputs ts → EachArg (OverHere inputs) ts
      each-args-over no_args h = tt
      each-args-over (arg t ts) h = (each-over t h.0, each-args-over ts h.1)

    mutual
      pub over-parts : (t : Term) → IsOver d inputs t → Each (IsOver d inputs) t
      over-parts (constant w n) h = h
      over-parts (input i w) h = h
      over-parts (apply f args w) h = (over-arg-parts args h.0, h)
      over-parts (not_ a) h = (over-parts a h, h)
      over-parts (binary op a b) h = (over-parts a h.0, over-parts b h.1, h)
      over-parts (slice a high low) h = (over-parts a h, h)
      over-parts (pick c a b) h = (over-parts c h.0, over-parts a h.1, over-parts b h.2, h)

      pub over-arg-parts : (ts : Args) → AreOver d inputs ts → EachArg (IsOver d inputs) ts
      over-arg-parts no_args h = tt
      over-arg-parts (arg t ts) h = (over-parts t h.0, over-arg-parts ts h.1)

    pub applied-at : (t : Term) → IsOver d inputs t → (f w : ℕ) (args : Args) → is_among (walk t []) (apply f args w) ≡ true → IsRuntimeAt d f (arg_widths args) w
    applied-at t h f w args m = in-walk (OverHere inputs) t (apply f args w) (each-over t h) m

    pub mentioned-is : (t : Term) → IsOver d inputs t → (i w : ℕ) → Mentions t i w → inputs i w ≡ true
    mentioned-is t h i w m = in-walk (OverHere inputs) t (input i w) (each-over t h) m

    pub applies-alike : (t : Term) → IsOver d inputs t → AppliesAlike t
    applies-alike t h f v w ts us p q =
        let a = applied-at t h f v ts p in
        let b = applied-at t h f w us q in
        let same : a.function ≡ b.function = (let x = a.there in let y = b.there in cc) in (
          a.params_are ∙ ap (λ (g : FunctionDecl). widths_of g.params) same ∙ sym b.params_are,
          a.result_is ∙ ap (λ (g : FunctionDecl). result_width g.result) same ∙ sym b.result_is,
        )

  -- with other inputs
  module _ (inputs others : ℕ → ℕ → Bool) (In : Term → Type 0) (m : (i w : ℕ) → In (input i w) → others i w ≡ true) where
    mutual
      with-others : (t : Term) → IsOver d inputs t → Each In t → IsOver d others t
      with-others (constant w n) h k = tt
      with-others (input i w) h k = m i w k
      with-others (apply f args w) h k = (args-with-others args h.0 k.0, h.1)
      with-others (not_ a) h k = with-others a h k.0
      with-others (binary op a b) h k = (with-others a h.0 k.0, with-others b h.1 k.1)
      with-others (slice a high low) h k = with-others a h k.0
      with-others (pick c a b) h k = (with-others c h.0 k.0, with-others a h.1 k.1, with-others b h.2 k.2)

      args-with-others : (ts : Args) → AreOver d inputs ts → EachArg In ts → AreOver d others ts
      args-with-others no_args h k = tt
      args-with-others (arg t ts) h k = (with-others t h.0 k.0, args-with-others ts h.1 k.1)

  pub over-others : (inputs : ℕ → ℕ → Bool) (t : Term) → IsOver d inputs t → (others : ℕ → ℕ → Bool) → ((i w : ℕ) → Mentions t i w → others i w ≡ true) → IsOver d others t
  over-others inputs t h others m = with-others inputs others (λ u. is_among (walk t []) u ≡ true) m t h (walk-has t [])

  -- ---- values of functions

  found-number : (k : ResultKind) (o : Option Value) → HasValue (result_sort k) o → number_in (term_number o) < 2 ^ result_width k
  found-number k None h = absurd h
  found-number (of_width w) (Some (number v n)) h = h.1
  found-number (of_width w) (Some (truth b)) h = absurd h
  found-number of_truth (Some (number v n)) h = absurd h
  found-number of_truth (Some (truth true)) h = omega arith
  found-number of_truth (Some (truth false)) h = omega arith

  fields-fit : (ws ns : List ℕ) → AllZip FitsWidth ws ns → FieldsFit ws ns
  fields-fit [] [] h = tt
  fields-fit [] (n ∷ ns) h = absurd h
  fields-fit (w ∷ ws) [] h = absurd h
  fields-fit (w ∷ ws) (n ∷ ns) h = (h.0, fields-fit ws ns h.1)

  pub functions-fit : (defs : Defs) → RowsFit d defs → (inputs : ℕ → ℕ → Bool) (t : Term) → IsOver d inputs t → FunctionsFit t (functions_by d defs)
  functions-fit defs rows inputs t h f w args m xs fit =
      let at = applied-at inputs t h f w args m in
      let g = at.function in
      let value : HasValue (result_sort g.result) (look_up defs g.name.text xs) =
      rows g (at_place (functions d) f g at.there) at.runtime xs (subst (λ ws. FieldsFit ws xs) at.params_are (fields-fit (arg_widths args) xs fit)) in
      subst (λ (o : Option FunctionDecl). number_in (term_number (option_and_then (λ (g : FunctionDecl). look_up defs g.name.text xs) o)) < 2 ^ w) (sym at.there)
      (subst (λ v. number_in (term_number (look_up defs g.name.text xs)) < 2 ^ v) (sym at.result_is) (found-number g.result (look_up defs g.name.text xs) value))
