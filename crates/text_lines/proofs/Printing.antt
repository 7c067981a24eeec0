-- Texts that are printed one after the other.
use Rattle.std.proofs.Common.{◌≡◌, ℕ, ◌+◌, ◌<◌, ◌≤◌, List, [], ◌∷◌, ◌++◌, length, drop, get_or, replicate, Option, Some, None, refl, ap, sym, subst, ◌∙◌, append-nil, append_assoc}
use Rattle.std.specs.Prelude.{option_map}
use Rattle.std.proofs.lemmas.List.{at_drop_more, at_drop_all, replicate_more}
use Rattle.text_lines.specs.Printing.{Prints}

pub followed : {a b c : Option (List ℕ)} {s t : List ℕ} → Prints a s b → Prints b t c → Prints a (s ++ t) c
followed {a} {b} {c} {s} {t} p q = record { whole = λ all h. joined a b (q.whole all h) p.whole }
  where
    joined : (a b : Option (List ℕ)) {all : List ℕ} → option_map (λ x. x ++ t) b ≡ Some all → ((y : List ℕ) → b ≡ Some y → option_map (λ x. x ++ s) a ≡ Some y) → option_map (λ x. x ++ (s ++ t)) a ≡ Some all
    joined None None h k = absurd cc
    joined None (Some y) h k = absurd (none_some (k y refl))
      where
        none_some : None ≡ Some y → ⊥
        none_some e = cc
    joined (Some x) None h k = absurd cc
    joined (Some x) (Some y) h k =
        let e : Some (x ++ s) ≡ Some y = k y refl in
        let f : x ++ s ≡ y = cc in
        ap Some (sym (append_assoc x s t) ∙ ap (λ z. z ++ t) f) ∙ h

pub nothing : (a : Option (List ℕ)) → Prints a [] a
nothing None = record { whole = λ all h. absurd cc }
nothing (Some x) = record { whole = λ all h. ap Some (append-nil x) ∙ h }

pub lost : (a b : Option (List ℕ)) (s : List ℕ) → b ≡ None → Prints a s b
lost a b s e = record { whole = λ all h. absurd cc }

-- ---- a walk over a list

-- a text of which this rest is still to be printed
pub record Leads (before now : Option (List ℕ)) (rest all : List ℕ) : Type 0 where
  pub go : (after : Option (List ℕ)) → Prints now rest after → Prints before all after

pub sets_out : (a : Option (List ℕ)) (s : List ℕ) → Leads a a s s
sets_out a s = record { go = λ after p. p }

pub step : {a b c : Option (List ℕ)} {s t all : List ℕ} → Leads a b (s ++ t) all → Prints b s c → Leads a c t all
step l p = record { go = λ after q. l.go after (followed p q) }

pub arrives : {a b : Option (List ℕ)} {all : List ℕ} → Leads a b [] all → Prints a all b
arrives {a} {b} l = l.go b (nothing b)

-- one item on, and at the end
pub walk_step : {A : Type 0} (T : List A → List ℕ) (f : A → List ℕ) → ((x : A) (xs : List A) → T (x ∷ xs) ≡ f x ++ T xs) → (xs : List A) (i : ℕ) (x d : A) {a b c : Option (List ℕ)} {all : List ℕ} → i < length xs → x ≡ get_or xs i d
    → Leads a b (T (drop i xs)) all → Prints b (f x) c → Leads a c (T (drop (i + 1) xs)) all
walk_step T f more xs i x d {a} {b} {c} {all} h e l p =
    let next : T (drop i xs) ≡ f x ++ T (drop (i + 1) xs) =
    at_drop_more T xs i d h ∙ ap (λ y. T (y ∷ drop (i + 1) xs)) (sym e) ∙ more x (drop (i + 1) xs) in
    step (subst (λ t. Leads a b t all) next l) p

pub walk_end : {A : Type 0} (T : List A → List ℕ) → T [] ≡ [] → (xs : List A) (i : ℕ) {a b : Option (List ℕ)} {all : List ℕ} → length xs ≤ i → Leads a b (T (drop i xs)) all → Prints a all b
walk_end T none xs i {a} {b} {all} h l = arrives (subst (λ t. Leads a b t all) (at_drop_all T xs i h ∙ none) l)

-- one blank more on a new line
pub one_blank : (n : ℕ) {a b c : Option (List ℕ)} → Prints a (10 ∷ replicate n 32) b → Prints b (32 ∷ []) c → Prints a (10 ∷ replicate (n + 1) 32) c
one_blank n {a} {b} {c} p q = subst (λ s. Prints a (10 ∷ s) c) (replicate_more n 32) (followed p q)
