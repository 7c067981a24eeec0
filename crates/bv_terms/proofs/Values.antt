-- Values of terms with choices over rows.
use Rattle.std.proofs.Common.{◌≡◌, ℕ, ◌==◌, ◌&&◌, Bool, true, false, bit_and, List, [], ◌∷◌, length, Option, Some, None, fold, refl, ap, sym, ◌∙◌, subst, arith, if◌then◌else◌}
use Rattle.std.specs.List.{AllByRecursion}
use Rattle.std.specs.Option.{option_map, unwrap_or}
use Rattle.std.proofs.lemmas.List.Elements.{recursion_from_All}
use Rattle.cocoon_num.specs.Rows.{has_bits, values_match, first_match}
use Rattle.cocoon_num.specs.FunTables.{row_matches, looked}
use Rattle.cocoon_num.specs.Values.{Value, number, truth, apply_unary, apply_slice, flip}
use Rattle.cocoon_num.specs.declared.bits.Bits.{Bits}
use Rattle.cocoon_num.specs.declared.fun_table.FunRow.{FunRow}
use Rattle.cocoon_num.specs.declared.fun_table.FunTable.{FunTable}
use Rattle.bv_terms.specs.declared.node.TermOp.TheVariants.{And, Equal}
use Rattle.bv_terms.specs.TermTrees.{Term, Args, constant, input, apply, not_, binary, slice, pick, no_args, arg, width, arg_widths, IsTerm, AreArgs}
use Rattle.bv_terms.specs.TermValues.{Functions, Inputs, number_in, term_number, operated, term_value, arg_numbers}
use Rattle.bv_terms.specs.Environments.{RowFits}
use Rattle.bv_terms.proofs.ValueFacts.{computed, compared, value-width}
use Rattle.bv_terms.specs.Chains.{chain}
use Rattle.bv_terms.specs.WithRows.{Tables, table_of, number_term, position_test, position_tests, row_test, picks, looked_up, with_rows, args_with_rows}
use Rattle.bv_terms.specs.Fitting.{CanStand, TablesFit, TablesFitArgs}
use Rattle.bv_terms.specs.ByTables.{by_tables}
use Rattle.bv_terms.proofs.Widths.{width-rows, widths-rows}

abbrev bit : Bool → ℕ
bit b = number_in (truth b)

module _ (F : Functions) (ins : Inputs) where
  abbrev value : Term → Value
  value t = term_value F ins t

  -- each argument has a number of its width
  abbrev HaveWidths : Args → Type 0
  HaveWidths no_args = Unit {0}
  HaveWidths (arg t ts) = ((n : ℕ) × (term_value F ins t ≡ number (width t) n)) × HaveWidths ts

  -- ---- one row

  position-value : (v m : ℕ) (t : Term) (n : ℕ) → value t ≡ number (width t) n → value (position_test v m t) ≡ number 1 (bit (has_bits v m n))
  position-value v m t n e =
      let w = width t in
      ap (λ x. operated Equal (operated And x (number w m)) (number w (bit_and v m))) e
      ∙ ap (λ x. operated Equal x (number w (bit_and v m))) (computed (λ w a b. bit_and a b) w w n m refl)
      ∙ compared (λ a b. a == b) w w (bit_and n m) (bit_and v m) refl

  both-true : (b c : Bool) → operated And (number 1 (bit b)) (number 1 (bit c)) ≡ number 1 (bit (b && c))
  both-true true true = refl
  both-true true false = refl
  both-true false true = refl
  both-true false false = refl

  and-assoc : (a b c : Bool) → ((a && b) && c) ≡ (a && (b && c))
  and-assoc true b c = refl
  and-assoc false b c = refl

  number-is : (t : Term) (n : ℕ) → value t ≡ number (width t) n → number_in (value t) ≡ n
  number-is t n e = ap number_in e

  and-true : (b : Bool) → (b && true) ≡ b
  and-true true = refl
  and-true false = refl

  tests-value : (first : Term) (b : Bool) → value first ≡ number 1 (bit b) → (vs ms : List ℕ) (ts : Args) → HaveWidths ts
      → length vs ≡ length (arg_widths ts) → length ms ≡ length (arg_widths ts)
      → value (fold (binary And) first (position_tests vs ms ts)) ≡ number 1 (bit (b && values_match vs ms (arg_numbers F ins ts)))
  tests-value first b e [] [] no_args h k l = e ∙ ap (λ c. number 1 (bit c)) (sym (and-true b))
  tests-value first b e (v ∷ vs) (m ∷ ms) (arg t ts) h k l =
      let n = h.0.0 in
      let next : value (binary And first (position_test v m t)) ≡ number 1 (bit (b && has_bits v m n))
      = ap (λ x. operated And x (value (position_test v m t))) e ∙ ap (operated And (number 1 (bit b))) (position-value v m t n h.0.1) ∙ both-true b (has_bits v m n) in
      tests-value (binary And first (position_test v m t)) (b && has_bits v m n) next vs ms ts h.1 (omega (arith, k)) (omega (arith, l))
      ∙ ap (λ c. number 1 (bit c)) (and-assoc b (has_bits v m n) (values_match vs ms (arg_numbers F ins ts)))
      ∙ ap (λ x. number 1 (bit (b && (has_bits v m x && values_match vs ms (arg_numbers F ins ts))))) (sym (number-is t n h.0.1))
  tests-value first b e [] (m ∷ ms) no_args h k l = absurd (omega (arith, l))
  tests-value first b e (v ∷ vs) ms no_args h k l = absurd (omega (arith, k))
  tests-value first b e [] ms (arg t ts) h k l = absurd (omega (arith, k))
  tests-value first b e (v ∷ vs) [] (arg t ts) h k l = absurd (omega (arith, l))

  chain-value : (vs ms : List ℕ) (ts : Args) → HaveWidths ts → length vs ≡ length (arg_widths ts) → length ms ≡ length (arg_widths ts)
      → value (chain And (constant 1 1) (position_tests vs ms ts)) ≡ number 1 (bit (values_match vs ms (arg_numbers F ins ts)))
  chain-value [] [] no_args h k l = refl
  chain-value (v ∷ vs) (m ∷ ms) (arg t ts) h k l =
      tests-value (position_test v m t) (has_bits v m h.0.0) (position-value v m t h.0.0 h.0.1) vs ms ts h.1 (omega (arith, k)) (omega (arith, l))
      ∙ ap (λ x. number 1 (bit (has_bits v m x && values_match vs ms (arg_numbers F ins ts)))) (sym (number-is t h.0.0 h.0.1))
  chain-value [] (m ∷ ms) no_args h k l = absurd (omega (arith, l))
  chain-value (v ∷ vs) ms no_args h k l = absurd (omega (arith, k))
  chain-value [] ms (arg t ts) h k l = absurd (omega (arith, k))
  chain-value (v ∷ vs) [] (arg t ts) h k l = absurd (omega (arith, l))

  -- ---- the rows

  picked : (b : Bool) (c x y : Value) → c ≡ number 1 (bit b) → (if number_in c == 1 then x else y) ≡ (if b then x else y)
  picked true c x y e = rw e refl
  picked false c x y e = rw e refl

  rows-step : (b : Bool) (first rest : Bits) (w : ℕ) (v : Value) → first.width ≡ w → v ≡ number w rest.value
      → (if b then number first.width first.value else v) ≡ number w (if b then first else rest).value
  rows-step true first rest w v e d = ap (λ k. number k first.value) e
  rows-step false first rest w v e d = d

  rows-value : (rows : List FunRow) (otherwise : Bits) (ts : Args) (w : ℕ) → HaveWidths ts → AllByRecursion (RowFits (length (arg_widths ts)) w) rows → otherwise.width ≡ w
      → value (picks rows otherwise ts) ≡ number w (first_match (row_matches (arg_numbers F ins ts)) (λ (row : FunRow). row.result) rows otherwise).value
  rows-value [] otherwise ts w h f e = ap (λ k. number k otherwise.value) e
  rows-value (row ∷ rows) otherwise ts w h f e =
      let b = row_matches (arg_numbers F ins ts) row in
      picked b (value (row_test row ts)) (value (number_term row.result)) (value (picks rows otherwise ts))
      (chain-value row.values row.masks ts h f.0.0.0 f.0.0.1)
      ∙ rows-step b row.result (first_match (row_matches (arg_numbers F ins ts)) (λ (r : FunRow). r.result) rows otherwise) w (value (picks rows otherwise ts)) f.0.1
      (rows-value rows otherwise ts w h f.1 e)

  looked-value : (o : Option FunTable) (f : ℕ) (ts : Args) (ws : List ℕ) (w : ℕ) → HaveWidths ts → arg_widths ts ≡ ws → CanStand o ws w
      → value (looked_up o f ts w) ≡ number w (unwrap_or (option_map (λ t. (looked t (arg_numbers F ins ts)).value) o) (F f (arg_numbers F ins ts)))
  looked-value None f ts ws w h e s = refl
  looked-value (Some t) f ts ws w h e s =
      rows-value t.rows t.default ts w h
      (subst (λ us. AllByRecursion (RowFits (length us) w) t.rows) (sym e) (recursion_from_All (RowFits (length ws) w) t.rows s.0.rows)) s.0.otherwise

-- ---- terms

module _ (tables : Tables) (others : Functions) (ins : Inputs) where
  abbrev F : Functions
  F = by_tables tables others

  mutual
    pub rows-keep : (t : Term) → IsTerm t → TablesFit tables t → term_value others ins (with_rows tables t) ≡ term_value F ins t
    rows-keep (constant w n) i h = refl
    rows-keep (input k w) i h = refl
    rows-keep (apply f args w) i h =
        looked-value others ins (table_of tables f) f (args_with_rows tables args) (arg_widths args) w (args-have args i.0 h.0) (widths-rows tables args h.0) h.1
        ∙ ap (λ xs. number w (F f xs)) (args-keep args i.0 h.0)
    rows-keep (not_ a) i h = ap (λ v. term_number (apply_unary flip v)) (rows-keep a i h)
    rows-keep (binary op a b) i h =
        ap (λ v. operated op v (term_value others ins (with_rows tables b))) (rows-keep a i.0 h.0) ∙ ap (operated op (term_value F ins a)) (rows-keep b i.1 h.1)
    rows-keep (slice a high low) i h = ap (λ v. term_number (apply_slice v high low)) (rows-keep a i.0 h)
    rows-keep (pick c a b) i h =
        let x = rows-keep c i.0 h.0 in let y = rows-keep a i.1 h.1 in let z = rows-keep b i.2 h.2 in rw (x, y, z) refl

    args-keep : (ts : Args) → AreArgs ts → TablesFitArgs tables ts → arg_numbers others ins (args_with_rows tables ts) ≡ arg_numbers F ins ts
    args-keep no_args i h = refl
    args-keep (arg t ts) i h = let d = ap number_in (rows-keep t i.0 h.0) in let e = args-keep ts i.2 h.1 in cc

    args-have : (ts : Args) → AreArgs ts → TablesFitArgs tables ts → HaveWidths others ins (args_with_rows tables ts)
    args-have no_args i h = tt
    args-have (arg t ts) i h =
        let v = value-width F ins t i.0 in
        ((v.0, rows-keep t i.0 h.0 ∙ v.1 ∙ ap (λ k. number k v.0) (sym (width-rows tables t h.0))), args-have ts i.2 h.1)
