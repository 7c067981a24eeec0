-- Terms have the same value for inputs that agree where they are named.
use Rattle.std.proofs.Common.{◌≡◌, ◌⊎◌, inl, inr, ℕ, suc, ◌==◌, List, [], ◌∷◌, ◌++◌, Bool, true, false, Option, Some, None, if◌then◌else◌, option_map, option_and_then, refl, sym, ap, ◌∙◌}
use Rattle.std.specs.Prelude.{slice_get, unwrap_or}
use Rattle.cocoon_num.specs.Values.{number, apply_slice, apply_unary, flip}
use Rattle.bv_terms.specs.TermTrees as term
use Rattle.bv_terms.specs.TermTrees.{Term, Args, no_args, arg}
use Rattle.bv_terms.specs.TermValues.{Functions, Inputs, arg_numbers, number_in, operated, term_number, term_value}
use Rattle.bv_terms.specs.Walks.{same_term}
use Rattle.refinement.proofs.Lists.{same_number}
use Rattle.sound_types.proofs.Options.{both_true, same_self, true_both}
use Rattle.obligation_laws.specs.Shown.{numbers_of}
use Rattle.obligation_laws.specs.Leaves.{End, end_fields, end_values}
use Rattle.obligation_laws.specs.States.{NewInput, input_term}
use Rattle.obligation_laws.specs.MadeOf.{Made, MadeArgs, OfInputs}
use Rattle.obligation_laws.specs.Formulas.{position, read_back, sent_at}
use Rattle.obligation_laws.specs.ReadBackLeaves.{StandsAmong}

-- an input is given the same
abbrev pub Agree : Inputs → Inputs → OfInputs
Agree a b n w = a n ≡ b n

module _ (F : Functions) (a b : Inputs) where
  mutual
    pub same_value : (t : Term) → Made (Agree a b) t → term_value F a t ≡ term_value F b t
    same_value (term.constant w n) h = refl
    same_value (term.input i w) h = ap (number w) h
    same_value (term.apply f args w) h = ap (λ ns. number w (F f ns)) (same_numbers args h)
    same_value (term.not_ t) h = ap (λ v. term_number (apply_unary flip v)) (same_value t h)
    same_value (term.binary op t u) h = λ k. operated op (same_value t h.0 k) (same_value u h.1 k)
    same_value (term.slice t high low) h = ap (λ v. term_number (apply_slice v high low)) (same_value t h)
    same_value (term.pick c t u) h = λ k. if number_in (same_value c h.0 k) == 1 then same_value t h.1 k else same_value u h.2 k

    same_numbers : (ts : Args) → MadeArgs (Agree a b) ts → arg_numbers F a ts ≡ arg_numbers F b ts
    same_numbers no_args h = refl
    same_numbers (arg t ts) h = λ k. number_in (same_value t h.0 k) ∷ same_numbers ts h.1 k

mutual
  pub made_both : (P Q : OfInputs) (t : Term) → Made P t → Made Q t → Made (λ n w. P n w × Q n w) t
  made_both P Q (term.constant w n) h k = tt
  made_both P Q (term.input i w) h k = (h, k)
  made_both P Q (term.apply f args w) h k = args_both P Q args h k
  made_both P Q (term.not_ t) h k = made_both P Q t h k
  made_both P Q (term.binary op t u) h k = (made_both P Q t h.0 k.0, made_both P Q u h.1 k.1)
  made_both P Q (term.slice t high low) h k = made_both P Q t h k
  made_both P Q (term.pick c t u) h k = (made_both P Q c h.0 k.0, made_both P Q t h.1 k.1, made_both P Q u h.2 k.2)

  args_both : (P Q : OfInputs) (ts : Args) → MadeArgs P ts → MadeArgs Q ts → MadeArgs (λ n w. P n w × Q n w) ts
  args_both P Q no_args h k = tt
  args_both P Q (arg t ts) h k = (made_both P Q t h.0 k.0, args_both P Q ts h.1 k.1)

-- ---- what is read back

alone_number : (F : Functions) (a : Inputs) (t : Term) (i : NewInput) → same_term t (input_term i) ≡ true → number_in (term_value F a t) ≡ a i.number
alone_number F a (term.input j v) i h = ap a (same_number j i.number (both_true (j == i.number) (v == i.width) h).0)
alone_number F a (term.constant v n) i h = absurd (cc)
alone_number F a (term.apply f args v) i h = absurd (cc)
alone_number F a (term.not_ t) i h = absurd (cc)
alone_number F a (term.binary op t u) i h = absurd (cc)
alone_number F a (term.slice t high low) i h = absurd (cc)
alone_number F a (term.pick c t u) i h = absurd (cc)

some_same : {A : Type 0} (x y : A) → ◌≡◌ {A = Option A} (Some x) (Some y) → x ≡ y
some_same x y h = cc

first_number : (x y : ℕ) (xs ys : List ℕ) → ◌≡◌ {A = List ℕ} (x ∷ xs) (y ∷ ys) → x ≡ y
first_number x y xs ys h = cc

later_numbers : (x y : ℕ) (xs ys : List ℕ) → ◌≡◌ {A = List ℕ} (x ∷ xs) (y ∷ ys) → xs ≡ ys
later_numbers x y xs ys h = cc

module _ (F : Functions) (a b : Inputs) where
  -- what is sent where a choice stands alone has the choice's number
  at_position : (ts us : List Term) → numbers_of F a ts ≡ numbers_of F b us → (i : NewInput) (u : Term) → sent_at i ts us ≡ Some u → number_in (term_value F b u) ≡ a i.number
  at_position [] us e i u h = absurd (cc)
  at_position (t ∷ ts) [] e i u h = absurd (cc)
  at_position (t ∷ ts) (s ∷ us) e i u h =
      by (at_position ts us (later_numbers (number_in (term_value F a t)) (number_in (term_value F b s)) (numbers_of F a ts) (numbers_of F b us) e) i u) (same_term t (input_term i)) refl h
    where
      later : (option_and_then (slice_get us) (position i ts) ≡ Some u → number_in (term_value F b u) ≡ a i.number) → (o : Option ℕ) → position i ts ≡ o → option_and_then (slice_get (s ∷ us)) (option_map suc o) ≡ Some u
          → number_in (term_value F b u) ≡ a i.number
      later f None p g = absurd (cc)
      later f (Some n) p g = f (ap (option_and_then (slice_get us)) p ∙ g)

      by : (option_and_then (slice_get us) (position i ts) ≡ Some u → number_in (term_value F b u) ≡ a i.number) → (c : Bool) → same_term t (input_term i) ≡ c
          → option_and_then (slice_get (s ∷ us)) (if c then Some 0 else option_map suc (position i ts)) ≡ Some u → number_in (term_value F b u) ≡ a i.number
      by f true p g =
          ap (λ x. number_in (term_value F b x)) (sym (some_same s u g))
          ∙ sym (first_number (number_in (term_value F a t)) (number_in (term_value F b s)) (numbers_of F a ts) (numbers_of F b us) e)
          ∙ alone_number F a t i p
      by f false p g = later f (position i ts) refl g

  -- where nothing is sent at its position, it stands alone nowhere
  stands_not : (ts us : List Term) → numbers_of F a ts ≡ numbers_of F b us → (i : NewInput) → sent_at i ts us ≡ None → StandsAmong i ts → ⊥
  stands_not [] us e i h s = s
  stands_not (t ∷ ts) [] e i h s = absurd (cc)
  stands_not (t ∷ ts) (r ∷ us) e i h s =
      by (stands_not ts us (later_numbers (number_in (term_value F a t)) (number_in (term_value F b r)) (numbers_of F a ts) (numbers_of F b us) e) i) (same_term t (input_term i)) refl h s
    where
      is_same : t ≡ input_term i → same_term t (input_term i) ≡ true
      is_same q = ap (λ x. same_term x (input_term i)) q ∙ true_both (i.number == i.number) (i.width == i.width) (same_self i.number) (same_self i.width)

      later : (o : Option ℕ) → position i ts ≡ o → option_and_then (slice_get (r ∷ us)) (option_map suc o) ≡ None → option_and_then (slice_get us) (position i ts) ≡ None
      later None p g = ap (option_and_then (slice_get us)) p
      later (Some n) p g = ap (option_and_then (slice_get us)) p ∙ g

      by : (option_and_then (slice_get us) (position i ts) ≡ None → StandsAmong i ts → ⊥) → (c : Bool) → same_term t (input_term i) ≡ c
          → option_and_then (slice_get (r ∷ us)) (if c then Some 0 else option_map suc (position i ts)) ≡ None → StandsAmong i (t ∷ ts) → ⊥
      by f true p g q = absurd (cc)
      by f false p g q = elim q [
        | inl same ↦ absurd (let z : true ≡ false = sym (is_same same) ∙ p in cc)
        | inr k ↦ f (later (position i ts) refl g) k
      ]

  among_split : (i : NewInput) (ts us : List Term) → StandsAmong i (ts ++ us) → StandsAmong i ts ⊎ StandsAmong i us
  among_split i [] us h = inr h
  among_split i (t ∷ ts) us h = elim h [
    | inl e ↦ inl (inl e)
    | inr k ↦ elim (among_split i ts us k) [ inl l ↦ inl (inr l) | inr r ↦ inr r ]
  ]

  -- a choice that is read back has its number
  pub read_back_number : (old sent : End) → numbers_of F a (end_values old) ≡ numbers_of F b (end_values sent) → numbers_of F a (end_fields old) ≡ numbers_of F b (end_fields sent) → (i : NewInput) → StandsAmong i (end_values old ++ end_fields old)
      → number_in (term_value F b (read_back old sent i)) ≡ a i.number
  read_back_number old sent values fields i among = by (sent_at i (end_values old) (end_values sent)) refl
    where
      as_field : (o : Option Term) → sent_at i (end_fields old) (end_fields sent) ≡ o → (StandsAmong i (end_values old) → ⊥) → number_in (term_value F b (unwrap_or o (term.constant i.width 0))) ≡ a i.number
      as_field None e none = absurd (elim (among_split i (end_values old) (end_fields old) among) [
        | inl k ↦ none k
        | inr k ↦ stands_not (end_fields old) (end_fields sent) fields i e k
      ])
      as_field (Some t) e none = at_position (end_fields old) (end_fields sent) fields i t e

      by : (o : Option Term) → sent_at i (end_values old) (end_values sent) ≡ o
          → number_in (term_value F b (elim o as (λ x. Term) [ Some t ↦ t | None ↦ unwrap_or (sent_at i (end_fields old) (end_fields sent)) (term.constant i.width 0) ])) ≡ a i.number
      by None e = as_field (sent_at i (end_fields old) (end_fields sent)) refl (stands_not (end_values old) (end_values sent) values i e)
      by (Some t) e = at_position (end_values old) (end_values sent) values i t e
