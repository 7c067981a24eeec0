-- What holds of a term and of all that it is made of, and what a walk over it has then.
use Rattle.std.proofs.Common.{◌≡◌, ℕ, true, false, List, [], ◌∷◌, ◌++◌, ap, sym, ◌∙◌, subst, inl, inr}
use Rattle.std.specs.List.{AllByRecursion}
use Rattle.std.proofs.lemmas.List.Folds.{list_any-append}
use Rattle.std.proofs.lemmas.Bool.{cases_Bool, cond-true, cond-false, or_cases, or_left, or_right, false≢true}
use Rattle.bv_terms.specs.declared.node.Node.{Node}
use Rattle.bv_terms.specs.declared.node.Node.TheVariants.{Constant, Input, Apply, Not, Binary, Slice, Pick}
use Rattle.bv_terms.specs.TermTrees.{Term, Args, constant, input, apply, not_, binary, slice, pick, no_args, arg}
use Rattle.bv_terms.specs.Arenas.{parts, args_of, made_of}
use Rattle.bv_terms.specs.Walks.{is_among, leave, same_term, walk, walk_args}
use Rattle.bv_terms.proofs.SameTerms.{same-itself, same-only}

abbrev mutual
  pub Each : (Term → Type 0) → Term → Type 0
  Each P (constant w n) = P (constant w n)
  Each P (input i w) = P (input i w)
  Each P (apply f args w) = EachArg P args × P (apply f args w)
  Each P (not_ a) = Each P a × P (not_ a)
  Each P (binary op a b) = Each P a × Each P b × P (binary op a b)
  Each P (slice a high low) = Each P a × P (slice a high low)
  Each P (pick c a b) = Each P c × Each P a × Each P b × P (pick c a b)

  pub EachArg : (Term → Type 0) → Args → Type 0
  EachArg P no_args = Unit {0}
  EachArg P (arg t ts) = Each P t × EachArg P ts

pub each-itself : (P : Term → Type 0) (t : Term) → Each P t → P t
each-itself P (constant w n) h = h
each-itself P (input i w) h = h
each-itself P (apply f args w) h = h.1
each-itself P (not_ a) h = h.1
each-itself P (binary op a b) h = h.2
each-itself P (slice a high low) h = h.1
each-itself P (pick c a b) h = h.3

mutual
  pub each-weaker : (P Q : Term → Type 0) → ((t : Term) → P t → Q t) → (t : Term) → Each P t → Each Q t
  each-weaker P Q f (constant w n) h = f (constant w n) h
  each-weaker P Q f (input i w) h = f (input i w) h
  each-weaker P Q f (apply g args w) h = (each-weaker-args P Q f args h.0, f (apply g args w) h.1)
  each-weaker P Q f (not_ a) h = (each-weaker P Q f a h.0, f (not_ a) h.1)
  each-weaker P Q f (binary op a b) h = (each-weaker P Q f a h.0, each-weaker P Q f b h.1, f (binary op a b) h.2)
  each-weaker P Q f (slice a high low) h = (each-weaker P Q f a h.0, f (slice a high low) h.1)
  each-weaker P Q f (pick c a b) h = (each-weaker P Q f c h.0, each-weaker P Q f a h.1, each-weaker P Q f b h.2, f (pick c a b) h.3)

  pub each-weaker-args : (P Q : Term → Type 0) → ((t : Term) → P t → Q t) → (ts : Args) → EachArg P ts → EachArg Q ts
  each-weaker-args P Q f no_args h = tt
  each-weaker-args P Q f (arg t ts) h = (each-weaker P Q f t h.0, each-weaker-args P Q f ts h.1)

-- ---- terms of nodes

args-parts : (P : Term → Type 0) (f : ℕ → Term) (xs : List ℕ) → EachArg P (args_of f xs) → AllByRecursion (λ p. Each P (f p)) xs
args-parts P f [] h = tt
args-parts P f (a ∷ xs) h = (h.0, args-parts P f xs h.1)

pub each-parts : (P : Term → Type 0) (f : ℕ → Term) (n : Node) → Each P (made_of f n) → AllByRecursion (λ p. Each P (f p)) (parts n)
each-parts P f (Constant b) h = tt
each-parts P f (Input i w) h = tt
each-parts P f (Apply g args w) h = args-parts P f args h.0
each-parts P f (Not a) h = (h.0, tt)
each-parts P f (Binary op a b) h = (h.0, (h.1, tt))
each-parts P f (Slice a high low) h = (h.0, tt)
each-parts P f (Pick c a b) h = (h.0, (h.1, (h.2, tt)))

args-made : (P : Term → Type 0) (f : ℕ → Term) (xs : List ℕ) → AllByRecursion (λ p. Each P (f p)) xs → EachArg P (args_of f xs)
args-made P f [] h = tt
args-made P f (a ∷ xs) h = (h.0, args-made P f xs h.1)

pub each-made : (P : Term → Type 0) (f : ℕ → Term) (n : Node) → AllByRecursion (λ p. Each P (f p)) (parts n) → P (made_of f n) → Each P (made_of f n)
each-made P f (Constant b) h p = p
each-made P f (Input i w) h p = p
each-made P f (Apply g args w) h p = (args-made P f args h, p)
each-made P f (Not a) h p = (h.0, p)
each-made P f (Binary op a b) h p = (h.0, h.1.0, p)
each-made P f (Slice a high low) h p = (h.0, p)
each-made P f (Pick c a b) h p = (h.0, h.1.0, h.1.1.0, p)

-- ---- terms in a list

pub in-list : (P : Term → Type 0) (ts : List Term) (t : Term) → AllByRecursion P ts → is_among ts t ≡ true → P t
in-list P [] t h e = absurd (false≢true e)
in-list P (u ∷ us) t h e = elim (or_cases (same_term u t) (is_among us t) e) [
  | inl s ↦ subst P (same-only u t s) h.0
  | inr r ↦ in-list P us t h.1 r
]

all-snoc : (P : Term → Type 0) (ts : List Term) (t : Term) → AllByRecursion P ts → P t → AllByRecursion P (ts ++ t ∷ [])
all-snoc P [] t h p = (p, tt)
all-snoc P (u ∷ us) t h p = (h.0, all-snoc P us t h.1 p)

among-snoc : (ts : List Term) (t u : Term) → is_among ts u ≡ true → is_among (ts ++ t ∷ []) u ≡ true
among-snoc ts t u h = list_any-append (λ (x : Term). same_term x u) ts (t ∷ []) ∙ or_left (is_among ts u) (is_among (t ∷ []) u) h

among-last : (ts : List Term) (t : Term) → is_among (ts ++ t ∷ []) t ≡ true
among-last ts t = list_any-append (λ (x : Term). same_term x t) ts (t ∷ []) ∙ or_right (is_among ts t) (is_among (t ∷ []) t) (or_left (same_term t t) false (same-itself t))

-- ---- a walk has only terms that the given one is made of

leave-all : (P : Term → Type 0) (t : Term) (seen : List Term) → AllByRecursion P seen → P t → AllByRecursion P (leave t seen)
leave-all P t seen h p = elim (cases_Bool (is_among seen t)) [
  | inl b ↦ subst (AllByRecursion P) (sym (cond-true (is_among seen t) seen (seen ++ t ∷ []) b)) h
  | inr b ↦ subst (AllByRecursion P) (sym (cond-false (is_among seen t) seen (seen ++ t ∷ []) b)) (all-snoc P seen t h p)
]

mutual
  pub walk-all : (P : Term → Type 0) (t : Term) (seen : List Term) → Each P t → AllByRecursion (Each P) seen → AllByRecursion (Each P) (walk t seen)
  walk-all P (constant w n) seen h s = leave-all (Each P) (constant w n) seen s h
  walk-all P (input i w) seen h s = leave-all (Each P) (input i w) seen s h
  walk-all P (apply f args w) seen h s = leave-all (Each P) (apply f args w) (walk_args args seen) (walk-all-args P args seen h.0 s) h
  walk-all P (not_ a) seen h s = leave-all (Each P) (not_ a) (walk a seen) (walk-all P a seen h.0 s) h
  walk-all P (binary op a b) seen h s = leave-all (Each P) (binary op a b) (walk b (walk a seen)) (walk-all P b (walk a seen) h.1 (walk-all P a seen h.0 s)) h
  walk-all P (slice a high low) seen h s = leave-all (Each P) (slice a high low) (walk a seen) (walk-all P a seen h.0 s) h
  walk-all P (pick c a b) seen h s =
      leave-all (Each P) (pick c a b) (walk b (walk a (walk c seen)))
      (walk-all P b (walk a (walk c seen)) h.2 (walk-all P a (walk c seen) h.1 (walk-all P c seen h.0 s))) h

  pub walk-all-args : (P : Term → Type 0) (ts : Args) (seen : List Term) → EachArg P ts → AllByRecursion (Each P) seen → AllByRecursion (Each P) (walk_args ts seen)
  walk-all-args P no_args seen h s = s
  walk-all-args P (arg t ts) seen h s = walk-all-args P ts (walk t seen) h.1 (walk-all P t seen h.0 s)

pub in-walk : (P : Term → Type 0) (t u : Term) → Each P t → is_among (walk t []) u ≡ true → P u
in-walk P t u h e = each-itself P u (in-list (Each P) (walk t []) u (walk-all P t [] h tt) e)

-- ---- and all of them

leave-kept : (t u : Term) (seen : List Term) → is_among seen u ≡ true → is_among (leave t seen) u ≡ true
leave-kept t u seen h = elim (cases_Bool (is_among seen t)) [
  | inl b ↦ ap (λ s. is_among s u) (cond-true (is_among seen t) seen (seen ++ t ∷ []) b) ∙ h
  | inr b ↦ ap (λ s. is_among s u) (cond-false (is_among seen t) seen (seen ++ t ∷ []) b) ∙ among-snoc seen t u h
]

leave-there : (t : Term) (seen : List Term) → is_among (leave t seen) t ≡ true
leave-there t seen = elim (cases_Bool (is_among seen t)) [
  | inl b ↦ ap (λ s. is_among s t) (cond-true (is_among seen t) seen (seen ++ t ∷ []) b) ∙ b
  | inr b ↦ ap (λ s. is_among s t) (cond-false (is_among seen t) seen (seen ++ t ∷ []) b) ∙ among-last seen t
]

mutual
  pub walk-kept : (t u : Term) (seen : List Term) → is_among seen u ≡ true → is_among (walk t seen) u ≡ true
  walk-kept (constant w n) u seen h = leave-kept (constant w n) u seen h
  walk-kept (input i w) u seen h = leave-kept (input i w) u seen h
  walk-kept (apply f args w) u seen h = leave-kept (apply f args w) u (walk_args args seen) (walk-kept-args args u seen h)
  walk-kept (not_ a) u seen h = leave-kept (not_ a) u (walk a seen) (walk-kept a u seen h)
  walk-kept (binary op a b) u seen h = leave-kept (binary op a b) u (walk b (walk a seen)) (walk-kept b u (walk a seen) (walk-kept a u seen h))
  walk-kept (slice a high low) u seen h = leave-kept (slice a high low) u (walk a seen) (walk-kept a u seen h)
  walk-kept (pick c a b) u seen h =
      leave-kept (pick c a b) u (walk b (walk a (walk c seen))) (walk-kept b u (walk a (walk c seen)) (walk-kept a u (walk c seen) (walk-kept c u seen h)))

  pub walk-kept-args : (ts : Args) (u : Term) (seen : List Term) → is_among seen u ≡ true → is_among (walk_args ts seen) u ≡ true
  walk-kept-args no_args u seen h = h
  walk-kept-args (arg t ts) u seen h = walk-kept-args ts u (walk t seen) (walk-kept t u seen h)

-- what is in a list stays in a longer one

abbrev Grows : (seen after : List Term) → Type 0
Grows seen after = (u : Term) → is_among seen u ≡ true → is_among after u ≡ true

grown : (seen after : List Term) → Grows seen after → (t : Term) → Each (λ u. is_among seen u ≡ true) t → Each (λ u. is_among after u ≡ true) t
grown seen after g t h = each-weaker (λ u. is_among seen u ≡ true) (λ u. is_among after u ≡ true) g t h

grown-args : (seen after : List Term) → Grows seen after → (ts : Args) → EachArg (λ u. is_among seen u ≡ true) ts → EachArg (λ u. is_among after u ≡ true) ts
grown-args seen after g ts h = each-weaker-args (λ u. is_among seen u ≡ true) (λ u. is_among after u ≡ true) g ts h

mutual
  pub walk-has : (t : Term) (seen : List Term) → Each (λ u. is_among (walk t seen) u ≡ true) t
  walk-has (constant w n) seen = leave-there (constant w n) seen
  walk-has (input i w) seen = leave-there (input i w) seen
  walk-has (apply f args w) seen =
      let s = walk_args args seen in
      (grown-args s (leave (apply f args w) s) (λ u. leave-kept (apply f args w) u s) args (walk-has-args args seen), leave-there (apply f args w) s)
  walk-has (not_ a) seen =
      let s = walk a seen in
      (grown s (leave (not_ a) s) (λ u. leave-kept (not_ a) u s) a (walk-has a seen), leave-there (not_ a) s)
  walk-has (binary op a b) seen =
      let s = walk a seen in
      let r = walk b s in
      let last = leave (binary op a b) r in (
        grown s last (λ u h. leave-kept (binary op a b) u r (walk-kept b u s h)) a (walk-has a seen),
        grown r last (λ u. leave-kept (binary op a b) u r) b (walk-has b s),
        leave-there (binary op a b) r,
      )
  walk-has (slice a high low) seen =
      let s = walk a seen in
      (grown s (leave (slice a high low) s) (λ u. leave-kept (slice a high low) u s) a (walk-has a seen), leave-there (slice a high low) s)
  walk-has (pick c a b) seen =
      let q = walk c seen in
      let s = walk a q in
      let r = walk b s in
      let last = leave (pick c a b) r in (
        grown q last (λ u h. leave-kept (pick c a b) u r (walk-kept b u s (walk-kept a u q h))) c (walk-has c seen),
        grown s last (λ u h. leave-kept (pick c a b) u r (walk-kept b u s h)) a (walk-has a q),
        grown r last (λ u. leave-kept (pick c a b) u r) b (walk-has b s),
        leave-there (pick c a b) r,
      )

  pub walk-has-args : (ts : Args) (seen : List Term) → EachArg (λ u. is_among (walk_args ts seen) u ≡ true) ts
  walk-has-args no_args seen = tt
  walk-has-args (arg t ts) seen = (
    grown (walk t seen) (walk_args ts (walk t seen)) (λ u. walk-kept-args ts u (walk t seen)) t (walk-has t seen),
    walk-has-args ts (walk t seen),
  )
