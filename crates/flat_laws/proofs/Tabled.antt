-- A flat goal that is true has tables under which the goal is true.
use Rattle.std.proofs.Common.{◌≡◌, ℕ, zero, suc, ◌-◌, ◌^◌, ◌<◌, ◌==◌, ◌||◌, Bool, true, false, List, [], ◌∷◌, map, refl, sym, ap, subst, ◌∙◌, arith, inl, inr, Option}
use Rattle.std.specs.Prelude.{filter, not, option_map, unwrap_or}
use Rattle.std.specs.List.{AllByRecursion, AllZip}
use Rattle.std.proofs.lemmas.Bool.{cases_Bool, cond-true, cond-false, eqb-true, eq-eqb, false≢true}
use Rattle.cocoon_num.specs.FunTables.{looked, row_matches}
use Rattle.cocoon_num.specs.Rows.{first_match, values_match}
use Rattle.cocoon_num.specs.Values.{FitsWidth, number, apply_unary, apply_slice, flip}
use Rattle.cocoon_num.specs.declared.bits.Bits.{Bits}
use Rattle.cocoon_num.specs.declared.fun_table.FunRow.{FunRow}
use Rattle.cocoon_num.specs.declared.fun_table.FunTable.{FunTable}
use Rattle.bv_terms.specs.declared.node.TermOp.TheVariants.{And}
use Rattle.bv_terms.specs.Inputs.{Applies}
use Rattle.bv_terms.specs.TermTrees.{Term, Args, constant, input, apply, not_, binary, slice, pick, no_args, arg, width, arg_widths, IsTerm, AreArgs}
use Rattle.bv_terms.specs.TermValues.{Functions, Inputs, arg_numbers, number_in, operated, term_number, term_value}
use Rattle.bv_terms.specs.Walks.{applications, is_among, same_term, walk}
use Rattle.bv_terms.proofs.Subterms.{Each, EachArg, in-list, in-walk, walk-has}
use Rattle.bv_terms.specs.ByTables.{by_tables}
use Rattle.bv_terms.specs.Chains.{chain}
use Rattle.bv_terms.specs.WithRows.{Tables}
use Rattle.flat_laws.proofs.FittingValues.{values-fit}
use Rattle.bv_terms.proofs.SameTerms.{same-only}
use Rattle.flat_laws.specs.Flat.{agreement, agreements, args_in, equal_args, flattened, reduced, reduced_args, same_function}
use Rattle.flat_laws.specs.Meant.{CanFlatten}
use Rattle.flat_laws.specs.Rows.{AllFit, HasRows, IsRowOf, argument_values, is_of, result_input}
use Rattle.flat_laws.proofs.Kept.{all-agree, all-in, is-term}
use Rattle.flat_laws.proofs.Matching.{Pairs, first-true, match-itself, match-same, pairs-of, same-refl}
use Rattle.flat_laws.proofs.Places.{Applied, still-among}
use Rattle.flat_laws.proofs.Reduced.{reduced-args, reduced-term, reduced-width, reduced-widths}
use Rattle.flat_laws.proofs.Values.{agrees, bit, bit-true, each-one, equal-args, equal-value, same_numbers}

below-two : (n : ℕ) → n < 2 ^ 1 → (b : Bool) × (n ≡ bit b)
below-two zero h = (false, refl)
below-two (suc zero) h = (true, refl)
below-two (suc (suc n)) h = absurd (omega (arith, h))

module _ (goal : Term) (first : ℕ) (z : CanFlatten goal first) (G : Functions) (ins : Inputs) (fit : AllFit goal first ins) where
  abbrev applied : List Term
  applied = applications goal

  abbrev In : Term → Type 0
  In u = is_among (walk goal []) u ≡ true

  abbrev vals : Term → List ℕ
  vals t = argument_values G ins goal first t

  abbrev one_of : Term → ℕ
  one_of t = ins (result_input goal first t)

  -- ---- what stands in the flat goal fits

  abbrev Fits : Term → Type 0
  Fits (input i w) = FitsWidth w (ins i)
  Fits (apply f args w) = ⊥
  Fits (constant w n) = Unit {0}
  Fits (not_ a) = Unit {0}
  Fits (binary op a b) = Unit {0}
  Fits (slice a high low) = Unit {0}
  Fits (pick c a b) = Unit {0}

  each-fits : (t : Term) → Each In t → Each Fits (reduced applied first t)
  each-fits (constant w n) h = tt
  each-fits (input i w) h = fit.inputs i w h
  each-fits (apply f args w) h = fit.results f w args h.1
  each-fits (not_ a) h = (each-fits a h.0, tt)
  each-fits (binary op a b) h = (each-fits a h.0, each-fits b h.1, tt)
  each-fits (slice a high low) h = (each-fits a h.0, tt)
  each-fits (pick c a b) h = (each-fits c h.0, each-fits a h.1, each-fits b h.2, tt)

  reduced-fit : (t : Term) → IsTerm t → Each In t
      → (n : ℕ) × (term_value G ins (reduced applied first t) ≡ number (width (reduced applied first t)) n) × FitsWidth (width (reduced applied first t)) n
  reduced-fit t i h =
      values-fit (reduced applied first t) (reduced-term applied first t i) G ins
      (λ f w args m xs k. absurd (in-walk Fits (reduced applied first t) (apply f args w) (each-fits t h) m))
      (λ j w m. in-walk Fits (reduced applied first t) (input j w) (each-fits t h) m)

  args-fit : (ts : Args) → AreArgs ts → EachArg In ts → AllZip FitsWidth (arg_widths ts) (arg_numbers G ins (reduced_args applied first ts))
  args-fit no_args i h = tt
  args-fit (arg t ts) i h =
      let r = reduced-fit t i.0 h.0 in (
        subst (FitsWidth (width t)) (sym (ap number_in r.1)) (subst (λ w. FitsWidth w r.0) (reduced-width applied first t) r.2),
        args-fit ts i.2 h.1,
      )

  vals-fit : (t : Term) → Applied (Each In) t → AllZip FitsWidth (arg_widths (args_in t)) (vals t)
  vals-fit (apply f ts v) h = args-fit ts (is-term goal first z (apply f ts v) h.0.1).0 h.0.0
  vals-fit (constant w n) h = absurd (false≢true h.1)
  vals-fit (input i w) h = absurd (false≢true h.1)
  vals-fit (not_ a) h = absurd (false≢true h.1)
  vals-fit (binary op a b) h = absurd (false≢true h.1)
  vals-fit (slice a high low) h = absurd (false≢true h.1)
  vals-fit (pick c a b) h = absurd (false≢true h.1)

  -- ---- agreements

  agreement-is : (t u : Term) → Applied (Each In) t → Applied (Each In) u → same_function t u ≡ true
      → term_value G ins (agreement applied first t u) ≡ number 1 (bit (not (same_numbers (vals t) (vals u)) || (one_of t == one_of u)))
  agreement-is (apply f ts v) (apply g us w) h k s =
      let e : f ≡ g = eqb-true f g s in
      let like = z.alike f v w ts us h.0.1 (subst (λ x. Applies goal x us w) (sym e) k.0.1) in
      let t = apply f ts v in
      let u = apply g us w in
      let i = is-term goal first z t h.0.1 in
      let j = is-term goal first z u k.0.1 in
      agrees G ins (chain And (constant 1 1) (equal_args (reduced_args applied first ts) (reduced_args applied first us))) (reduced applied first t) (reduced applied first u)
      (same_numbers (vals t) (vals u)) (one_of t == one_of u)
      (equal-args G ins (reduced_args applied first ts) (reduced_args applied first us) (reduced-args applied first ts i.0) (reduced-args applied first us j.0)
      (reduced-widths applied first ts ∙ like.0 ∙ sym (reduced-widths applied first us)))
      (equal-value G ins (reduced applied first t) (reduced applied first u) (reduced-term applied first t i) (reduced-term applied first u j) like.1)
  agreement-is t u h k s = absurd cc

  agreement-says : (t u : Term) → Applied (Each In) t → Applied (Each In) u → same_function t u ≡ true → term_value G ins (agreement applied first t u) ≡ number 1 1
      → vals t ≡ vals u → one_of t ≡ one_of u
  agreement-says t u h k s one e =
      let a = same_numbers (vals t) (vals u) in
      let b = one_of t == one_of u in
      let both : (not a || b) ≡ true = bit-true (not a || b) (sym (agreement-is t u h k s) ∙ one) in
      let same : a ≡ true = subst (λ ns. same_numbers (vals t) ns ≡ true) e (same-refl (vals t)) in
      eqb-true (one_of t) (one_of u) (first-true a b both same)

  -- ---- the first row that matches

  module _ (f : ℕ) (args : Args) (w : ℕ) (k : Applied (Each In) (apply f args w)) where
    abbrev u : Term
    u = apply f args w

    same-function : (t : Term) → is_of f t ≡ true → same_function t (apply f args w) ≡ true
    same-function (apply g ts v) h = eq-eqb g f (sym (eqb-true f g h))
    same-function (constant w n) h = absurd (false≢true h)
    same-function (input i w) h = absurd (false≢true h)
    same-function (not_ a) h = absurd (false≢true h)
    same-function (binary op a b) h = absurd (false≢true h)
    same-function (slice a high low) h = absurd (false≢true h)
    same-function (pick c a b) h = absurd (false≢true h)

    like : (t : Term) → Applied (Each In) t → is_of f t ≡ true → arg_widths (args_in t) ≡ arg_widths args
    like (apply g ts v) h e = (z.alike f v w ts args (subst (λ x. Applies goal x ts v) (sym (eqb-true f g e)) h.0.1) k.0.1).0
    like (constant w n) h e = absurd (false≢true e)
    like (input i w) h e = absurd (false≢true e)
    like (not_ a) h e = absurd (false≢true e)
    like (binary op a b) h e = absurd (false≢true e)
    like (slice a high low) h e = absurd (false≢true e)
    like (pick c a b) h e = absurd (false≢true e)

    -- a row at these values matches as the values of its application do
    matches : (t : Term) (row : FunRow) → IsRowOf G ins goal first t row → row_matches (vals u) row ≡ values_match (vals t) (map (λ w. 2 ^ w - 1) (arg_widths (args_in t))) (vals u)
    matches t row r = ap (λ vs. values_match vs row.masks (vals u)) r.values ∙ ap (λ ms. values_match (vals t) ms (vals u)) r.masks

    own-matches : (t : Term) (row : FunRow) → t ≡ apply f args w → IsRowOf G ins goal first t row → row_matches (vals u) row ≡ true
    own-matches t row e r =
        matches t row r ∙ ap (λ x. values_match (vals x) (map (λ w. 2 ^ w - 1) (arg_widths (args_in x))) (vals u)) e ∙ match-itself (arg_widths args) (vals u) (vals-fit u k)

    other-matches : (t : Term) (row : FunRow) → Applied (Each In) t → is_of f t ≡ true → IsRowOf G ins goal first t row → row_matches (vals u) row ≡ true → vals t ≡ vals u
    other-matches t row h e r m =
        let same = like t h e in
        match-same (arg_widths args) (vals t) (vals u) (subst (λ ws. AllZip FitsWidth ws (vals t)) same (vals-fit t h)) (vals-fit u k)
        (subst (λ ws. values_match (vals t) (map (λ w. 2 ^ w - 1) ws) (vals u) ≡ true) same (sym (matches t row r) ∙ m))

    abbrev found : List FunRow → Bits → ℕ
    found rows otherwise = (first_match (row_matches (vals u)) (λ (row : FunRow). row.result) rows otherwise).value

    found-here : (row : FunRow) (rows : List FunRow) (otherwise : Bits) → row_matches (vals u) row ≡ true → found (row ∷ rows) otherwise ≡ row.result.value
    found-here row rows otherwise m = ap (λ (b : Bits). b.value) (cond-true (row_matches (vals u) row) row.result (first_match (row_matches (vals u)) (λ (row : FunRow). row.result) rows otherwise) m)

    found-later : (row : FunRow) (rows : List FunRow) (otherwise : Bits) → row_matches (vals u) row ≡ false → found (row ∷ rows) otherwise ≡ found rows otherwise
    found-later row rows otherwise m = ap (λ (b : Bits). b.value) (cond-false (row_matches (vals u) row) row.result (first_match (row_matches (vals u)) (λ (row : FunRow). row.result) rows otherwise) m)

    is-later : (t : Term) (ts : List Term) → same_term t u ≡ false → is_among (t ∷ ts) u ≡ true → is_among ts u ≡ true
    is-later t ts e m = sym (ap (λ b. b || is_among ts u) e) ∙ m

    not-same : (t : Term) → is_of f t ≡ false → same_term t u ≡ false
    not-same t e = elim (cases_Bool (same_term t u)) [
      | inl s ↦ absurd (false≢true (sym e ∙ ap (is_of f) (same-only t u s) ∙ eq-eqb f f refl))
      | inr s ↦ s
    ]

    abbrev One : Term → Term → Type 0
    One t v = term_value G ins (agreement applied first t v) ≡ number 1 1

    -- the first application of the function has the first row
    found-in : (t : Term) (ts : List Term) (rows : List FunRow) (otherwise : Bits) → Applied (Each In) t → AllByRecursion (λ v. same_function t v ≡ true → One t v) ts → is_of f t ≡ true
        → ((rows : List FunRow) → AllZip (IsRowOf G ins goal first) (filter (is_of f) ts) rows → is_among ts u ≡ true → found rows otherwise ≡ one_of u)
        → AllZip (IsRowOf G ins goal first) (t ∷ filter (is_of f) ts) rows → is_among (t ∷ ts) u ≡ true → found rows otherwise ≡ one_of u
    found-in t ts [] otherwise a p e later r m = absurd r
    found-in t ts (row ∷ rows) otherwise a p e later r m = elim (cases_Bool (same_term t u)) [
      | inl s ↦ found-here row rows otherwise (own-matches t row (same-only t u s) r.0) ∙ r.0.result ∙ ap one_of (same-only t u s)
      | inr s ↦ elim (cases_Bool (row_matches (vals u) row)) [
        | inl b ↦
            let one = in-list (λ v. same_function t v ≡ true → One t v) ts u p (is-later t ts s m) (same-function t e) in
            found-here row rows otherwise b ∙ r.0.result ∙ agreement-says t u a k (same-function t e) one (other-matches t row a e r.0 b)
        | inr b ↦ found-later row rows otherwise b ∙ later rows r.1 (is-later t ts s m)
      ]
    ]

    found-is : (ts : List Term) (rows : List FunRow) (otherwise : Bits) → AllByRecursion (Applied (Each In)) ts → Pairs One ts
        → AllZip (IsRowOf G ins goal first) (filter (is_of f) ts) rows → is_among ts u ≡ true → found rows otherwise ≡ one_of u
    found-is [] rows otherwise a p r m = absurd (false≢true m)
    found-is (t ∷ ts) rows otherwise a p r m = elim (cases_Bool (is_of f t)) [
      | inl e ↦
          found-in t ts rows otherwise a.0 p.0 e (λ rows. found-is ts rows otherwise a.1 p.1)
          (subst (λ l. AllZip (IsRowOf G ins goal first) l rows) (cond-true (is_of f t) (t ∷ filter (is_of f) ts) (filter (is_of f) ts) e) r) m
      | inr e ↦
          found-is ts rows otherwise a.1 p.1 (subst (λ l. AllZip (IsRowOf G ins goal first) l rows) (cond-false (is_of f t) (t ∷ filter (is_of f) ts) (filter (is_of f) ts) e) r)
          (is-later t ts (not-same t e) m)
    ]

  -- ---- the goal

  module _ (one : term_value G ins (flattened goal first) ≡ number 1 1) (tables : Tables) (has : HasRows G ins goal first tables) (others : Functions) where
    abbrev F : Functions
    F = by_tables tables others

    goal-bit : (b : Bool) × (term_value G ins (reduced applied first goal) ≡ number 1 (bit b))
    goal-bit =
        let r = reduced-fit goal z.term (walk-has goal []) in
        let wide : width (reduced applied first goal) ≡ 1 = reduced-width applied first goal ∙ z.truth in
        let b = below-two r.0 (subst (λ w. FitsWidth w r.0) wide r.2) in
        (b.0, r.1 ∙ ap (λ w. number w r.0) wide ∙ ap (number 1) b.1)

    each : (term_value G ins (reduced applied first goal) ≡ number 1 1) × AllByRecursion (λ t. term_value G ins t ≡ number 1 1) (agreements applied first [] applied)
    each =
        each-one G ins (reduced applied first goal) (agreements applied first [] applied) goal-bit
        (all-agree applied first (Applied (Each In)) (λ t. (b : Bool) × (term_value G ins t ≡ number 1 (bit b))) (λ t u h k s. (_, agreement-is t u h k s)) [] applied tt (all-in goal first z)) one

    by-rows : (f w : ℕ) (args : Args) → Each In (apply f args w) → F f (vals (apply f args w)) ≡ one_of (apply f args w)
    by-rows f w args h =
        let u = apply f args w in
        let rows = has f w args h.1 in
        ap (λ (o : Option FunTable). unwrap_or (option_map (λ (t : FunTable). (looked t (vals u)).value) o) (others f (vals u))) rows.is_there
        ∙ found-is f args w (h, refl) applied rows.table.rows rows.table.default (all-in goal first z)
        (pairs-of applied first (λ t. term_value G ins t ≡ number 1 1) applied each.1) rows.rows (still-among (walk goal []) u refl h.1)

    mutual
      gives : (t : Term) → Each In t → term_value F ins t ≡ term_value G ins (reduced applied first t)
      gives (constant w n) h = refl
      gives (input i w) h = refl
      gives (apply f args w) h = ap (number w) (ap (F f) (gives-args args h.0) ∙ by-rows f w args h)
      gives (not_ a) h = ap (λ v. term_number (apply_unary flip v)) (gives a h.0)
      gives (binary op a b) h = ap (λ v. operated op v (term_value F ins b)) (gives a h.0) ∙ ap (operated op (term_value G ins (reduced applied first a))) (gives b h.1)
      gives (slice a high low) h = ap (λ v. term_number (apply_slice v high low)) (gives a h.0)
      gives (pick c a b) h = let x = gives c h.0 in let y = gives a h.1 in let v = gives b h.2 in rw (x, y, v) refl

      gives-args : (ts : Args) → EachArg In ts → arg_numbers F ins ts ≡ arg_numbers G ins (reduced_args applied first ts)
      gives-args no_args h = refl
      gives-args (arg t ts) h = let d = ap number_in (gives t h.0) in let e = gives-args ts h.1 in cc

    goal-true : term_value F ins goal ≡ number 1 1
    goal-true = gives goal (walk-has goal []) ∙ each.0

pub has-tables : (goal : Term) (first : ℕ) → CanFlatten goal first → (none : Functions) (ins : Inputs) → AllFit goal first ins → term_value none ins (flattened goal first) ≡ number 1 1
    → (tables : Tables) → HasRows none ins goal first tables → (others : Functions) → term_value (by_tables tables others) ins goal ≡ number 1 1
has-tables goal first z none ins fit one tables has others = goal-true goal first z none ins fit one tables has others
