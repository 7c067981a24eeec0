-- Terms with other names for their inputs.
use Rattle.std.proofs.Common.{◌≡◌, ℕ, ◌==◌, ◌||◌, Bool, true, false, List, [], ◌∷◌, ◌++◌, map, refl, ap, sym, ◌∙◌, subst, arith, inl, inr}
use Rattle.std.specs.List.{AllByRecursion}
use Rattle.std.proofs.lemmas.List.{map-append}
use Rattle.std.proofs.lemmas.Bool.{cases_Bool, cond-true, cond-false, false≢true}
use Rattle.cocoon_num.specs.Values.{Value, number, apply_unary, apply_slice, flip}
use Rattle.bv_terms.specs.TermTrees.{Term, Args, constant, input, apply, not_, binary, slice, pick, no_args, arg}
use Rattle.bv_terms.specs.TermValues.{Functions, Inputs, arg_numbers, number_in, term_number, operated, term_value}
use Rattle.bv_terms.specs.Inputs.{AreApart, renamed, renamed_args}
use Rattle.bv_terms.specs.Walks.{is_among, leave, same_term, walk, walk_args}
use Rattle.bv_terms.proofs.SameTerms.{same-itself, same-only}
use Rattle.bv_terms.proofs.Subterms.{Each, EachArg, each-itself, walk-all, walk-all-args, walk-has}

-- ---- values

mutual
  pub value-renamed : (name : ℕ → ℕ) (F : Functions) (ins : Inputs) (t : Term) → term_value F ins (renamed name t) ≡ term_value F (λ i. ins (name i)) t
  value-renamed name F ins (constant w n) = refl
  value-renamed name F ins (input i w) = refl
  value-renamed name F ins (apply f args w) = ap (λ xs. number w (F f xs)) (numbers-renamed name F ins args)
  value-renamed name F ins (not_ a) = ap (λ v. term_number (apply_unary flip v)) (value-renamed name F ins a)
  value-renamed name F ins (binary op a b) =
      ap (λ v. operated op v (term_value F ins (renamed name b))) (value-renamed name F ins a) ∙ ap (operated op (term_value F (λ i. ins (name i)) a)) (value-renamed name F ins b)
  value-renamed name F ins (slice a high low) = ap (λ v. term_number (apply_slice v high low)) (value-renamed name F ins a)
  value-renamed name F ins (pick c a b) = rw (value-renamed name F ins c, value-renamed name F ins a, value-renamed name F ins b) refl

  pub numbers-renamed : (name : ℕ → ℕ) (F : Functions) (ins : Inputs) (ts : Args) → arg_numbers F ins (renamed_args name ts) ≡ arg_numbers F (λ i. ins (name i)) ts
  numbers-renamed name F ins no_args = refl
  numbers-renamed name F ins (arg t ts) = let d = ap number_in (value-renamed name F ins t) in let e = numbers-renamed name F ins ts in cc

-- ---- names that are apart on some terms

module _ (P : Term → Type 0) (name : ℕ → ℕ) (apart : (i j v w : ℕ) → P (input i v) → P (input j w) → name i ≡ name j → i ≡ j) where
  mutual
    pub same-given : (t u : Term) → Each P t → Each P u → renamed name t ≡ renamed name u → t ≡ u
    same-given (constant v m) (constant w n) h k e = cc
    same-given (input i v) (input j w) h k e =
        let names : name i ≡ name j = cc in
        let widths : v ≡ w = cc in
        let inputs = apart i j v w h k names in
        cc
    same-given (apply f ts v) (apply g us w) h k e =
        let lists : renamed_args name ts ≡ renamed_args name us = cc in
        let args = same-given-args ts us h.0 k.0 lists in
        cc
    same-given (not_ a) (not_ b) h k e =
        let part : renamed name a ≡ renamed name b = cc in
        ap not_ (same-given a b h.0 k.0 part)
    same-given (binary op a b) (binary op' a' b') h k e =
        let part : renamed name a ≡ renamed name a' = cc in
        let part' : renamed name b ≡ renamed name b' = cc in
        let first = same-given a a' h.0 k.0 part in
        let second = same-given b b' h.1 k.1 part' in
        cc
    same-given (slice a i j) (slice b i' j') h k e =
        let part : renamed name a ≡ renamed name b = cc in
        let first = same-given a b h.0 k.0 part in
        cc
    same-given (pick c a b) (pick c' a' b') h k e =
        let part : renamed name c ≡ renamed name c' = cc in
        let part' : renamed name a ≡ renamed name a' = cc in
        let part'' : renamed name b ≡ renamed name b' = cc in
        let choice = same-given c c' h.0 k.0 part in
        let first = same-given a a' h.1 k.1 part' in
        let second = same-given b b' h.2 k.2 part'' in
        cc
    same-given t u h k e = absurd cc

    pub same-given-args : (ts us : Args) → EachArg P ts → EachArg P us → renamed_args name ts ≡ renamed_args name us → ts ≡ us
    same-given-args no_args no_args h k e = refl
    same-given-args (arg t ts) (arg u us) h k e =
        let part : renamed name t ≡ renamed name u = cc in
        let rest : renamed_args name ts ≡ renamed_args name us = cc in
        let first = same-given t u h.0 k.0 part in
        let others = same-given-args ts us h.1 k.1 rest in
        cc
    same-given-args ts us h k e = absurd cc

  pub same-renamed : (t u : Term) → Each P t → Each P u → same_term (renamed name t) (renamed name u) ≡ same_term t u
  same-renamed t u h k = elim (cases_Bool (same_term t u)) [
    | inl e ↦ subst (λ x. same_term (renamed name t) (renamed name x) ≡ true) (same-only t u e) (same-itself (renamed name t)) ∙ sym e
    | inr e ↦ elim (cases_Bool (same_term (renamed name t) (renamed name u))) [
      | inl d ↦
          let same = same-given t u h k (same-only (renamed name t) (renamed name u) d) in
          absurd (false≢true (sym e ∙ subst (λ x. same_term t x ≡ true) same (same-itself t)))
      | inr d ↦ d ∙ sym e
    ]
  ]

  -- ---- the walk

  pub among-renamed : (ts : List Term) (t : Term) → AllByRecursion (Each P) ts → Each P t → is_among (map (renamed name) ts) (renamed name t) ≡ is_among ts t
  among-renamed [] t h k = refl
  among-renamed (u ∷ us) t h k =
      ap (λ b. b || is_among (map (renamed name) us) (renamed name t)) (same-renamed u t h.0 k) ∙ ap (λ b. same_term u t || b) (among-renamed us t h.1 k)

  leave-renamed : (t : Term) (seen : List Term) → AllByRecursion (Each P) seen → Each P t → leave (renamed name t) (map (renamed name) seen) ≡ map (renamed name) (leave t seen)
  leave-renamed t seen h k = elim (cases_Bool (is_among seen t)) [
    | inl e ↦
        cond-true (is_among (map (renamed name) seen) (renamed name t)) (map (renamed name) seen) (map (renamed name) seen ++ renamed name t ∷ []) (among-renamed seen t h k ∙ e)
        ∙ ap (map (renamed name)) (sym (cond-true (is_among seen t) seen (seen ++ t ∷ []) e))
    | inr e ↦
        cond-false (is_among (map (renamed name) seen) (renamed name t)) (map (renamed name) seen) (map (renamed name) seen ++ renamed name t ∷ []) (among-renamed seen t h k ∙ e)
        ∙ sym (map-append (renamed name) seen (t ∷ []))
        ∙ ap (map (renamed name)) (sym (cond-false (is_among seen t) seen (seen ++ t ∷ []) e))
  ]

  mutual
    pub walk-renamed : (t : Term) (seen : List Term) → Each P t → AllByRecursion (Each P) seen → walk (renamed name t) (map (renamed name) seen) ≡ map (renamed name) (walk t seen)
    walk-renamed (constant w n) seen h s = leave-renamed (constant w n) seen s h
    walk-renamed (input i w) seen h s = leave-renamed (input i w) seen s h
    walk-renamed (apply f args w) seen h s =
        ap (leave (renamed name (apply f args w))) (walk-renamed-args args seen h.0 s) ∙ leave-renamed (apply f args w) (walk_args args seen) (walk-all-args P args seen h.0 s) h
    walk-renamed (not_ a) seen h s = ap (leave (renamed name (not_ a))) (walk-renamed a seen h.0 s) ∙ leave-renamed (not_ a) (walk a seen) (walk-all P a seen h.0 s) h
    walk-renamed (binary op a b) seen h s =
        let q = walk-all P a seen h.0 s in
        ap (λ x. leave (renamed name (binary op a b)) (walk (renamed name b) x)) (walk-renamed a seen h.0 s)
        ∙ ap (leave (renamed name (binary op a b))) (walk-renamed b (walk a seen) h.1 q)
        ∙ leave-renamed (binary op a b) (walk b (walk a seen)) (walk-all P b (walk a seen) h.1 q) h
    walk-renamed (slice a high low) seen h s =
        ap (leave (renamed name (slice a high low))) (walk-renamed a seen h.0 s) ∙ leave-renamed (slice a high low) (walk a seen) (walk-all P a seen h.0 s) h
    walk-renamed (pick c a b) seen h s =
        let q = walk-all P c seen h.0 s in
        let r = walk-all P a (walk c seen) h.1 q in
        ap (λ x. leave (renamed name (pick c a b)) (walk (renamed name b) (walk (renamed name a) x))) (walk-renamed c seen h.0 s)
        ∙ ap (λ x. leave (renamed name (pick c a b)) (walk (renamed name b) x)) (walk-renamed a (walk c seen) h.1 q)
        ∙ ap (leave (renamed name (pick c a b))) (walk-renamed b (walk a (walk c seen)) h.2 r)
        ∙ leave-renamed (pick c a b) (walk b (walk a (walk c seen))) (walk-all P b (walk a (walk c seen)) h.2 r) h

    pub walk-renamed-args : (ts : Args) (seen : List Term) → EachArg P ts → AllByRecursion (Each P) seen → walk_args (renamed_args name ts) (map (renamed name) seen) ≡ map (renamed name) (walk_args ts seen)
    walk-renamed-args no_args seen h s = refl
    walk-renamed-args (arg t ts) seen h s =
        ap (walk_args (renamed_args name ts)) (walk-renamed t seen h.0 s) ∙ walk-renamed-args ts (walk t seen) h.1 (walk-all P t seen h.0 s)

pub walk-kept : (t : Term) (name : ℕ → ℕ) → AreApart name t → walk (renamed name t) [] ≡ map (renamed name) (walk t [])
walk-kept t name a = walk-renamed (λ u. is_among (walk t []) u ≡ true) name a t [] (walk-has t []) tt
