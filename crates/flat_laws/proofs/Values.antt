-- Values of chains and of agreements.
use Rattle.std.proofs.Common.{◌≡◌, ℕ, ◌==◌, ◌&&◌, ◌||◌, Bool, true, false, List, [], ◌∷◌, fold, refl, sym, ap, ◌∙◌}
use Rattle.std.specs.Prelude.{not}
use Rattle.std.specs.List.{AllByRecursion}
use Rattle.std.proofs.lemmas.Bool.{and_parts}
use Rattle.cocoon_num.specs.Values.{Value, number, truth, apply_unary, flip}
use Rattle.bv_terms.specs.declared.node.TermOp.TheVariants.{And, Or, Equal}
use Rattle.bv_terms.specs.TermTrees.{Term, Args, constant, binary, not_, no_args, arg, width, arg_widths, IsTerm, AreArgs}
use Rattle.bv_terms.specs.TermValues.{Functions, Inputs, arg_numbers, number_in, operated, term_number, term_value}
use Rattle.bv_terms.proofs.ValueFacts.{compared, value-width}
use Rattle.bv_terms.specs.Chains.{chain}
use Rattle.flat_laws.specs.Flat.{equal_args}

abbrev pub bit : Bool → ℕ
bit b = number_in (truth b)

abbrev pub same_numbers : List ℕ → List ℕ → Bool
same_numbers (m ∷ ms) (n ∷ ns) = m == n && same_numbers ms ns
same_numbers _ _ = true

and-bits : (b c : Bool) → operated And (number 1 (bit b)) (number 1 (bit c)) ≡ number 1 (bit (b && c))
and-bits true true = refl
and-bits true false = refl
and-bits false true = refl
and-bits false false = refl

or-bits : (b c : Bool) → operated Or (number 1 (bit b)) (number 1 (bit c)) ≡ number 1 (bit (b || c))
or-bits true true = refl
or-bits true false = refl
or-bits false true = refl
or-bits false false = refl

not-bit : (b : Bool) → term_number (apply_unary flip (number 1 (bit b))) ≡ number 1 (bit (not b))
not-bit true = refl
not-bit false = refl

and-assoc : (a b c : Bool) → ((a && b) && c) ≡ (a && (b && c))
and-assoc true b c = refl
and-assoc false b c = refl

and-true : (b : Bool) → (b && true) ≡ b
and-true true = refl
and-true false = refl

pub bit-true : (b : Bool) → number 1 (bit b) ≡ number 1 1 → b ≡ true
bit-true true e = refl
bit-true false e = let n : ◌≡◌ {A = ℕ} 0 1 = ap number_in e in absurd (cc)

module _ (F : Functions) (ins : Inputs) where
  abbrev value : Term → Value
  value t = term_value F ins t

  abbrev pub IsOne : Term → Type 0
  IsOne t = term_value F ins t ≡ number 1 1

  abbrev pub IsBit : Term → Type 0
  IsBit t = (b : Bool) × (term_value F ins t ≡ number 1 (bit b))

  -- ---- conjunctions

  pub all-one : (t : Term) (ts : List Term) → IsOne t → AllByRecursion (λ u. term_value F ins u ≡ number 1 1) ts → IsOne (fold (binary And) t ts)
  all-one t [] h k = h
  all-one t (u ∷ us) h k = all-one (binary And t u) us (ap (λ v. operated And v (value u)) h ∙ ap (operated And (number 1 1)) k.0) k.1

  and-is : (t u : Term) (b c : Bool) → value t ≡ number 1 (bit b) → value u ≡ number 1 (bit c) → value (binary And t u) ≡ number 1 (bit (b && c))
  and-is t u b c p q = ap (λ v. operated And v (value u)) p ∙ ap (operated And (number 1 (bit b))) q ∙ and-bits b c

  pub each-one : (t : Term) (ts : List Term) → IsBit t → AllByRecursion (λ u. (b : Bool) × (term_value F ins u ≡ number 1 (bit b))) ts → IsOne (fold (binary And) t ts)
      → IsOne t × AllByRecursion (λ u. term_value F ins u ≡ number 1 1) ts
  each-one t [] h k one = (one, tt)
  each-one t (u ∷ us) h k one =
      let b = h.0 in let c = k.0.0 in
      let e = and-is t u b c h.1 k.0.1 in
      let r = each-one (binary And t u) us (b && c, e) k.1 one in
      let p = and_parts b c (bit-true (b && c) (sym e ∙ r.0)) in
      (h.1 ∙ ap (λ x. number 1 (bit x)) p.0, (k.0.1 ∙ ap (λ x. number 1 (bit x)) p.1, r.1))

  -- ---- equal arguments

  equal-is : (w : ℕ) (t u : Term) (v : ℕ) (m n : ℕ) → value t ≡ number v m → value u ≡ number w n → v ≡ w → value (binary Equal t u) ≡ number 1 (bit (m == n))
  equal-is w t u v m n p q e = ap (λ x. operated Equal x (value u)) p ∙ ap (operated Equal (number v m)) q ∙ compared (λ a b. a == b) v w m n e

  -- two terms of one width
  pub equal-value : (t u : Term) → IsTerm t → IsTerm u → width t ≡ width u → value (binary Equal t u) ≡ number 1 (bit (number_in (value t) == number_in (value u)))
  equal-value t u h k e =
      let p = value-width F ins t h in
      let q = value-width F ins u k in
      equal-is (width u) t u (width t) p.0 q.0 p.1 q.1 e ∙ ap (λ x. number 1 (bit (x == q.0))) (sym (ap number_in p.1)) ∙ ap (λ x. number 1 (bit (number_in (value t) == x))) (sym (ap number_in q.1))

  folded : (t : Term) (b : Bool) → value t ≡ number 1 (bit b) → (ts us : Args) → AreArgs ts → AreArgs us → arg_widths ts ≡ arg_widths us
      → value (fold (binary And) t (equal_args ts us)) ≡ number 1 (bit (b && same_numbers (arg_numbers F ins ts) (arg_numbers F ins us)))
  folded t b e no_args no_args h k s = e ∙ ap (λ c. number 1 (bit c)) (sym (and-true b))
  folded t b e (arg x xs) (arg y ys) h k s =
      let v : width x ≡ width y = cc in
      let vs : arg_widths xs ≡ arg_widths ys = cc in
      let c = number_in (value x) == number_in (value y) in
      folded (binary And t (binary Equal x y)) (b && c) (and-is t (binary Equal x y) b c e (equal-value x y h.0 k.0 v)) xs ys h.2 k.2 vs
      ∙ ap (λ z. number 1 (bit z)) (and-assoc b c (same_numbers (arg_numbers F ins xs) (arg_numbers F ins ys)))
  folded t b e no_args (arg y ys) h k s = absurd cc
  folded t b e (arg x xs) no_args h k s = absurd cc

  pub equal-args : (ts us : Args) → AreArgs ts → AreArgs us → arg_widths ts ≡ arg_widths us
      → value (chain And (constant 1 1) (equal_args ts us)) ≡ number 1 (bit (same_numbers (arg_numbers F ins ts) (arg_numbers F ins us)))
  equal-args no_args no_args h k s = refl
  equal-args (arg x xs) (arg y ys) h k s =
      let v : width x ≡ width y = cc in
      let vs : arg_widths xs ≡ arg_widths ys = cc in
      folded (binary Equal x y) (number_in (value x) == number_in (value y)) (equal-value x y h.0 k.0 v) xs ys h.2 k.2 vs
  equal-args no_args (arg y ys) h k s = absurd cc
  equal-args (arg x xs) no_args h k s = absurd cc

  -- ---- agreements: equal numbers have equal results

  pub agrees : (c t u : Term) (a b : Bool) → value c ≡ number 1 (bit a) → value (binary Equal t u) ≡ number 1 (bit b)
      → value (binary Or (not_ c) (binary Equal t u)) ≡ number 1 (bit (not a || b))
  agrees c t u a b p q =
      ap (λ v. operated Or (term_number (apply_unary flip v)) (value (binary Equal t u))) p
      ∙ ap (λ v. operated Or v (value (binary Equal t u))) (not-bit a)
      ∙ ap (operated Or (number 1 (bit (not a)))) q
      ∙ or-bits (not a) b
