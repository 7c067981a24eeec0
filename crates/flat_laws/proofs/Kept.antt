-- A goal that is true stays true where inputs stand for its applications.
use Rattle.std.proofs.Common.{◌≡◌, ℕ, ◌+◌, ◌-◌, ◌<◌, ◌==◌, ◌||◌, nat_lt, Bool, true, false, List, [], ◌∷◌, ◌++◌, map, refl, sym, ap, subst, ◌∙◌, arith, inl, inr}
use Rattle.std.specs.Prelude.{filter, not}
use Rattle.std.specs.List.{AllByRecursion}
use Rattle.std.proofs.lemmas.Bool.{cases_Bool, cond-true, cond-false, lt-ltb, ltb-true, eqb-true, eq-eqb, and_parts}
use Rattle.cocoon_num.specs.Values.{number, apply_unary, apply_slice, flip}
use Rattle.bv_terms.specs.declared.node.TermOp.TheVariants.{And, Equal}
use Rattle.bv_terms.specs.Arenas.{nth}
use Rattle.bv_terms.specs.Inputs.{Applies}
use Rattle.bv_terms.specs.TermTrees.{Term, Args, constant, input, apply, not_, binary, slice, pick, no_args, arg, arg_widths, IsTerm, AreArgs}
use Rattle.bv_terms.specs.TermValues.{Functions, Inputs, arg_numbers, number_in, operated, term_number, term_value}
use Rattle.bv_terms.specs.Walks.{applications, is_among, is_application, walk}
use Rattle.bv_terms.proofs.Subterms.{Each, EachArg, in-walk, walk-all, walk-has}
use Rattle.bv_terms.specs.Chains.{chain}
use Rattle.flat_laws.specs.Flat.{agreement, agreements, agreements_with, equal_args, flattened, place_in, reduced, reduced_args, same_function}
use Rattle.flat_laws.specs.Meant.{CanFlatten, with_results}
use Rattle.flat_laws.proofs.Places.{Applied, all-applied, all-filtered, at-place, still-among}
use Rattle.flat_laws.proofs.Reduced.{reduced-args, reduced-term, reduced-widths}
use Rattle.flat_laws.proofs.Values.{agrees, all-one, bit, equal-args, equal-value, same_numbers}

mutual
  pub each-term : (t : Term) → IsTerm t → Each IsTerm t
  each-term (constant w n) h = h
  each-term (input i w) h = h
  each-term (apply f args w) h = (each-args args h.0, h)
  each-term (not_ a) h = (each-term a h, h)
  each-term (binary op a b) h = (each-term a h.0, each-term b h.1, h)
  each-term (slice a high low) h = (each-term a h.0, h)
  each-term (pick c a b) h = (each-term c h.0, each-term a h.1, each-term b h.2, h)

  each-args : (ts : Args) → AreArgs ts → EachArg IsTerm ts
  each-args no_args h = tt
  each-args (arg t ts) h = (each-term t h.0, each-args ts h.2)

-- ---- lists

pub all-both : (Q : Term → Type 0) (xs ys : List Term) → AllByRecursion Q xs → AllByRecursion Q ys → AllByRecursion Q (xs ++ ys)
all-both Q [] ys h k = k
all-both Q (x ∷ xs) ys h k = (h.0, all-both Q xs ys h.1 k)

all-mapped : (P Q : Term → Type 0) (f : Term → Term) → ((t : Term) → P t → Q (f t)) → (ts : List Term) → AllByRecursion P ts → AllByRecursion Q (map f ts)
all-mapped P Q f g [] h = tt
all-mapped P Q f g (t ∷ ts) h = (g t h.0, all-mapped P Q f g ts h.1)

-- what holds of the agreement of two applications of one function holds of all agreements
module _ (applied : List Term) (first : ℕ) (P Q : Term → Type 0) (agree : (t u : Term) → P t → P u → same_function t u ≡ true → Q (agreement applied first t u)) where
  with-all : (earlier : List Term) (u : Term) → AllByRecursion P earlier → P u → AllByRecursion Q (agreements_with applied first earlier u)
  with-all earlier u h k =
      all-mapped (λ t. P t × (same_function t u ≡ true)) Q (λ t. agreement applied first t u) (λ t g. agree t u g.0 k g.1)
      (filter (λ t. same_function t u) earlier) (all-filtered P (λ t. same_function t u) earlier h)

  pub all-agree : (earlier rest : List Term) → AllByRecursion P earlier → AllByRecursion P rest → AllByRecursion Q (agreements applied first earlier rest)
  all-agree earlier [] h k = tt
  all-agree earlier (u ∷ us) h k =
      all-both Q (agreements_with applied first earlier u) (agreements applied first (earlier ++ u ∷ []) us)
      (with-all earlier u h k.0) (all-agree (earlier ++ u ∷ []) us (all-both P earlier (u ∷ []) h (k.0, tt)) k.1)

-- ---- numbers of arguments

pub same-lists : (F : Functions) (ins : Inputs) (ts us : Args) → arg_widths ts ≡ arg_widths us → same_numbers (arg_numbers F ins ts) (arg_numbers F ins us) ≡ true
    → arg_numbers F ins ts ≡ arg_numbers F ins us
same-lists F ins no_args no_args e s = refl
same-lists F ins (arg t ts) (arg u us) e s =
    let es : arg_widths ts ≡ arg_widths us = cc in
    let p = and_parts (number_in (term_value F ins t) == number_in (term_value F ins u)) (same_numbers (arg_numbers F ins ts) (arg_numbers F ins us)) s in
    let a = eqb-true (number_in (term_value F ins t)) (number_in (term_value F ins u)) p.0 in
    let b = same-lists F ins ts us es p.1 in
    cc
same-lists F ins no_args (arg u us) e s = absurd cc
same-lists F ins (arg t ts) no_args e s = absurd cc

either-true : (a b : Bool) → (a ≡ true → b ≡ true) → (not a || b) ≡ true
either-true true b h = h refl
either-true false b h = refl

module _ (goal : Term) (first : ℕ) (z : CanFlatten goal first) where
  abbrev applied : List Term
  applied = applications goal

  abbrev In : Term → Type 0
  In u = is_among (walk goal []) u ≡ true

  pub all-in : AllByRecursion (Applied (Each (λ u. is_among (walk goal []) u ≡ true))) (applications goal)
  all-in = all-applied (Each (λ u. is_among (walk goal []) u ≡ true)) (walk goal []) (walk-all (λ u. is_among (walk goal []) u ≡ true) goal [] (walk-has goal []) tt)

  pub has-place : (t : Term) → is_among (walk goal []) t ≡ true → is_application t ≡ true → nth (applications goal) (place_in (applications goal) t) ≡ t
  has-place t h a = at-place (applications goal) t (still-among (walk goal []) t a h)

  pub is-term : (t : Term) → is_among (walk goal []) t ≡ true → IsTerm t
  is-term t h = in-walk IsTerm goal t (each-term goal z.term) h

  module _ (F G : Functions) (ins : Inputs) where
    abbrev new : Inputs
    new = with_results F ins goal first

    pub old-input : (i : ℕ) → i < first → new i ≡ ins i
    old-input i h = cond-true (nat_lt i first) (ins i) (number_in (term_value F ins (nth applied (i - first)))) (lt-ltb i first h)

    not-below : (k : ℕ) → nat_lt (first + k) first ≡ false
    not-below k = elim (cases_Bool (nat_lt (first + k) first)) [
      | inl e ↦ absurd (let l = ltb-true (first + k) first e in omega (arith, l))
      | inr e ↦ e
    ]

    pub new-input : (k : ℕ) → new (first + k) ≡ number_in (term_value F ins (nth applied k))
    new-input k =
        let e : first + k - first ≡ k = omega arith in
        cond-false (nat_lt (first + k) first) (ins (first + k)) (number_in (term_value F ins (nth applied (first + k - first)))) (not-below k)
        ∙ ap (λ n. number_in (term_value F ins (nth applied n))) e

    mutual
      keeps : (t : Term) → Each In t → term_value G new (reduced applied first t) ≡ term_value F ins t
      keeps (constant w n) h = refl
      keeps (input i w) h = ap (number w) (old-input i (z.below i w h))
      keeps (apply f args w) h =
          ap (number w) (new-input (place_in applied (apply f args w)) ∙ ap (λ u. number_in (term_value F ins u)) (has-place (apply f args w) h.1 refl))
      keeps (not_ a) h = ap (λ v. term_number (apply_unary flip v)) (keeps a h.0)
      keeps (binary op a b) h =
          ap (λ v. operated op v (term_value G new (reduced applied first b))) (keeps a h.0) ∙ ap (operated op (term_value F ins a)) (keeps b h.1)
      keeps (slice a high low) h = ap (λ v. term_number (apply_slice v high low)) (keeps a h.0)
      keeps (pick c a b) h = let x = keeps c h.0 in let y = keeps a h.1 in let v = keeps b h.2 in rw (x, y, v) refl

      keeps-args : (ts : Args) → EachArg In ts → arg_numbers G new (reduced_args applied first ts) ≡ arg_numbers F ins ts
      keeps-args no_args h = refl
      keeps-args (arg t ts) h = let d = ap number_in (keeps t h.0) in let e = keeps-args ts h.1 in cc

    -- equal arguments have equal results
    agreed : (t u : Term) → Applied (Each In) t → Applied (Each In) u → same_function t u ≡ true → term_value G new (agreement applied first t u) ≡ number 1 1
    agreed (apply f ts v) (apply g us w) h k s =
        let e : f ≡ g = eqb-true f g s in
        let like = z.alike f v w ts us h.0.1 (subst (λ x. Applies goal x us w) (sym e) k.0.1) in
        let t = apply f ts v in
        let u = apply g us w in
        let i = is-term t h.0.1 in
        let j = is-term u k.0.1 in
        let xs = arg_numbers F ins ts in
        let ys = arg_numbers F ins us in
        let args : term_value G new (chain And (constant 1 1) (equal_args (reduced_args applied first ts) (reduced_args applied first us))) ≡ number 1 (bit (same_numbers xs ys))
        = equal-args G new (reduced_args applied first ts) (reduced_args applied first us) (reduced-args applied first ts i.0) (reduced-args applied first us j.0)
        (reduced-widths applied first ts ∙ like.0 ∙ sym (reduced-widths applied first us))
        ∙ ap (λ zs. number 1 (bit (same_numbers zs (arg_numbers G new (reduced_args applied first us))))) (keeps-args ts h.0.0)
        ∙ ap (λ zs. number 1 (bit (same_numbers xs zs))) (keeps-args us k.0.0) in
        let results : term_value G new (binary Equal (reduced applied first t) (reduced applied first u)) ≡ number 1 (bit (F f xs == F g ys))
        = equal-value G new (reduced applied first t) (reduced applied first u) (reduced-term applied first t i) (reduced-term applied first u j) like.1
        ∙ ap (λ x. number 1 (bit (number_in x == number_in (term_value G new (reduced applied first u))))) (keeps t h.0)
        ∙ ap (λ x. number 1 (bit (F f xs == number_in x))) (keeps u k.0) in
        let true_ : (not (same_numbers xs ys) || (F f xs == F g ys)) ≡ true
        = either-true (same_numbers xs ys) (F f xs == F g ys)
        (λ same. eq-eqb (F f xs) (F g ys) (ap (F f) (same-lists F ins ts us like.0 same) ∙ ap (λ x. F x ys) e)) in
        agrees G new (chain And (constant 1 1) (equal_args (reduced_args applied first ts) (reduced_args applied first us))) (reduced applied first t) (reduced applied first u)
        (same_numbers xs ys) (F f xs == F g ys) args results
        ∙ ap (λ b. number 1 (bit b)) true_
    agreed t u h k s = absurd cc

    kept-true : term_value F ins goal ≡ number 1 1 → term_value G new (flattened goal first) ≡ number 1 1
    kept-true h =
        all-one G new (reduced applied first goal) (agreements applied first [] applied) (keeps goal (walk-has goal []) ∙ h)
        (all-agree applied first (Applied (Each In)) (λ t. term_value G new t ≡ number 1 1) agreed [] applied tt all-in)

pub stays-true : (goal : Term) (first : ℕ) → CanFlatten goal first → (F G : Functions) (ins : Inputs) → term_value F ins goal ≡ number 1 1
    → term_value G (with_results F ins goal first) (flattened goal first) ≡ number 1 1
stays-true goal first z F G ins h = kept-true goal first z F G ins h
