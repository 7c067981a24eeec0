-- The terms of a walk: each is new where it comes, and its parts come before it.
use Rattle.std.proofs.Common.{◌≡◌, ℕ, ◌||◌, Bool, true, false, List, [], ◌∷◌, ◌++◌, drop, length, take, Some, slice_get, refl, ap, sym, ◌∙◌, subst, inl, inr, append_assoc, zero, suc}
use Rattle.std.specs.Prelude.{filter}
use Rattle.std.specs.List.{AllByRecursion}
use Rattle.std.proofs.lemmas.List.{append-nil}
use Rattle.std.proofs.lemmas.List.Elements.{filter-append}
use Rattle.std.proofs.lemmas.Bool.{cases_Bool, cond-true, cond-false, or_left, false≢true}
use Rattle.bv_terms.specs.declared.node.Node.{Node}
use Rattle.bv_terms.specs.declared.node.Node.TheVariants.{Constant, Input, Apply, Not, Binary, Slice, Pick}
use Rattle.bv_terms.specs.Arenas.{parts, args_of, made_of}
use Rattle.bv_terms.specs.TermTrees.{Term, Args, constant, input, apply, not_, binary, slice, pick, no_args, arg}
use Rattle.bv_terms.specs.Walks.{is_among, is_application, leave, same_term, walk, walk_args}
use Rattle.bv_terms.proofs.SameTerms.{same-itself}
use Rattle.bv_terms.proofs.Subterms.{EachArg, each-itself, walk-has, walk-has-args, walk-kept}
use Rattle.flat_laws.specs.Flat.{place_in}

-- ---- the parts of a term

abbrev OfArgs : (Term → Type 0) → Args → Type 0
OfArgs P no_args = Unit {0}
OfArgs P (arg t ts) = P t × OfArgs P ts

abbrev OfParts : (Term → Type 0) → Term → Type 0
OfParts P (apply f args w) = OfArgs P args
OfParts P (not_ a) = P a
OfParts P (binary op a b) = P a × P b
OfParts P (slice a high low) = P a
OfParts P (pick c a b) = P c × P a × P b
OfParts P t = Unit {0}

of-args : (P : Term → Type 0) (f : ℕ → Term) (xs : List ℕ) → OfArgs P (args_of f xs) → AllByRecursion (λ p. P (f p)) xs
of-args P f [] h = tt
of-args P f (x ∷ xs) h = (h.0, of-args P f xs h.1)

of-parts : (P : Term → Type 0) (f : ℕ → Term) (node : Node) → OfParts P (made_of f node) → AllByRecursion (λ p. P (f p)) (parts node)
of-parts P f (Constant b) h = tt
of-parts P f (Input i w) h = tt
of-parts P f (Apply g args w) h = of-args P f args h
of-parts P f (Not a) h = (h, tt)
of-parts P f (Binary op a b) h = (h.0, (h.1, tt))
of-parts P f (Slice a high low) h = (h, tt)
of-parts P f (Pick c a b) h = (h.0, (h.1, (h.2, tt)))

-- ---- terms in order

-- a term that was not seen before, and its parts were
pub record Fresh (seen : List Term) (t : Term) : Type 0 where
  pub new : is_among seen t ≡ false
  pub parts : OfParts (λ u. is_among seen u ≡ true) t

abbrev Ordered : List Term → List Term → Type 0
Ordered seen [] = Unit {0}
Ordered seen (t ∷ ts) = Fresh seen t × Ordered (seen ++ t ∷ []) ts

ordered-append : (seen xs ys : List Term) → Ordered seen xs → Ordered (seen ++ xs) ys → Ordered seen (xs ++ ys)
ordered-append seen [] ys h k = subst (λ s. Ordered s ys) (append-nil seen) k
ordered-append seen (x ∷ xs) ys h k =
    (h.0, ordered-append (seen ++ x ∷ []) xs ys h.1 (subst (λ s. Ordered s ys) (sym (append_assoc seen (x ∷ []) xs)) k))

-- what is seen later
record Grows (after seen : List Term) : Type 0 where
  more : List Term
  is : after ≡ seen ++ more
  ordered : Ordered seen more

grows-none : (seen : List Term) → Grows seen seen
grows-none seen = record { more = []; is = sym (append-nil seen); ordered = tt }

grows-then : (last after seen : List Term) → Grows after seen → Grows last after → Grows last seen
grows-then last after seen g k = record {
  more = g.more ++ k.more;
  is = k.is ∙ ap (λ s. s ++ k.more) g.is ∙ append_assoc seen g.more k.more;
  ordered = ordered-append seen g.more k.more g.ordered (subst (λ s. Ordered s k.more) g.is k.ordered);
}

leave-grows : (t : Term) (seen : List Term) → OfParts (λ u. is_among seen u ≡ true) t → Grows (leave t seen) seen
leave-grows t seen ps = elim (cases_Bool (is_among seen t)) [
  | inl b ↦ record {
    more = [];
    is = cond-true (is_among seen t) seen (seen ++ t ∷ []) b ∙ sym (append-nil seen);
    ordered = tt;
  }
  | inr b ↦ record {
    more = t ∷ [];
    is = cond-false (is_among seen t) seen (seen ++ t ∷ []) b;
    ordered = (record { new = b; parts = ps }, tt);
  }
]

seen-args : (P : Term → Type 0) (ts : Args) → EachArg P ts → OfArgs P ts
seen-args P no_args h = tt
seen-args P (arg t ts) h = (each-itself P t h.0, seen-args P ts h.1)

-- a term is among those seen after a walk over it
pub walk-there : (t : Term) (seen : List Term) → is_among (walk t seen) t ≡ true
walk-there t seen = each-itself (λ u. is_among (walk t seen) u ≡ true) t (walk-has t seen)

mutual
  walk-grows : (t : Term) (seen : List Term) → Grows (walk t seen) seen
  walk-grows (constant w n) seen = leave-grows (constant w n) seen tt
  walk-grows (input i w) seen = leave-grows (input i w) seen tt
  walk-grows (apply f args w) seen =
      let last = walk_args args seen in
      grows-then (walk (apply f args w) seen) last seen (args-grow args seen)
      (leave-grows (apply f args w) last (seen-args (λ u. is_among last u ≡ true) args (walk-has-args args seen)))
  walk-grows (not_ a) seen = grows-then (walk (not_ a) seen) (walk a seen) seen (walk-grows a seen) (leave-grows (not_ a) (walk a seen) (walk-there a seen))
  walk-grows (binary op a b) seen =
      let one = walk a seen in
      let two = walk b one in
      grows-then (walk (binary op a b) seen) two seen (grows-then two one seen (walk-grows a seen) (walk-grows b one))
      (leave-grows (binary op a b) two (walk-kept b a one (walk-there a seen), walk-there b one))
  walk-grows (slice a i j) seen = grows-then (walk (slice a i j) seen) (walk a seen) seen (walk-grows a seen) (leave-grows (slice a i j) (walk a seen) (walk-there a seen))
  walk-grows (pick c a b) seen =
      let one = walk c seen in
      let two = walk a one in
      let three = walk b two in
      grows-then (walk (pick c a b) seen) three seen
      (grows-then three two seen (grows-then two one seen (walk-grows c seen) (walk-grows a one)) (walk-grows b two))
      (leave-grows (pick c a b) three (walk-kept b c two (walk-kept a c one (walk-there c seen)), walk-kept b a two (walk-there a one), walk-there b two))

  args-grow : (ts : Args) (seen : List Term) → Grows (walk_args ts seen) seen
  args-grow no_args seen = grows-none seen
  args-grow (arg t ts) seen = grows-then (walk_args ts (walk t seen)) (walk t seen) seen (walk-grows t seen) (args-grow ts (walk t seen))

fresh-from : (seen ts : List Term) (n : ℕ) (t : Term) → Ordered seen ts → slice_get ts n ≡ Some t → Fresh (seen ++ take n ts) t
fresh-from seen [] n t h e = absurd cc
fresh-from seen (u ∷ us) zero t h e =
    let same : u ≡ t = cc in
    subst (λ s. Fresh s t) (sym (append-nil seen)) (subst (Fresh seen) same h.0)
fresh-from seen (u ∷ us) (suc n) t h e = subst (λ s. Fresh s t) (append_assoc seen (u ∷ []) (take n us)) (fresh-from (seen ++ u ∷ []) us n t h.1 e)

pub fresh-at : (goal : Term) (n : ℕ) (t : Term) → slice_get (walk goal []) n ≡ Some t → Fresh (take n (walk goal [])) t
fresh-at goal n t e =
    let g = walk-grows goal [] in
    fresh-from [] (walk goal []) n t (subst (Ordered []) (sym g.is) g.ordered) e

-- so the parts of its node were seen
pub parts-seen : (seen : List Term) (f : ℕ → Term) (node : Node) → Fresh seen (made_of f node) → AllByRecursion (λ p. is_among seen (f p) ≡ true) (parts node)
parts-seen seen f node h = of-parts (λ u. is_among seen u ≡ true) f node h.parts

-- ---- the applications of a walk

pub split-at : {A : Type 0} (ts : List A) (n : ℕ) (t : A) → slice_get ts n ≡ Some t → ts ≡ take n ts ++ t ∷ drop (suc n) ts
split-at [] n t e = absurd cc
split-at (u ∷ us) zero t e = let same : u ≡ t = cc in ap (λ x. x ∷ us) same
split-at (u ∷ us) (suc n) t e = ap (λ x. u ∷ x) (split-at us n t e)

still-new : (ts : List Term) (t : Term) → is_among ts t ≡ false → is_among (filter is_application ts) t ≡ false
still-new [] t h = h
still-new (u ∷ us) t h =
    let p = neither (same_term u t) (is_among us t) h in
    elim (cases_Bool (is_application u)) [
      | inl e ↦
          ap (λ (ts : List Term). is_among ts t) (cond-true (is_application u) (u ∷ filter is_application us) (filter is_application us) e)
          ∙ ap (λ b. b || is_among (filter is_application us) t) p.0 ∙ still-new us t p.1
      | inr e ↦
          ap (λ (ts : List Term). is_among ts t) (cond-false (is_application u) (u ∷ filter is_application us) (filter is_application us) e) ∙ still-new us t p.1
    ]
  where
    neither : (a b : Bool) → (a || b) ≡ false → (a ≡ false) × (b ≡ false)
    neither true b e = absurd (false≢true (sym e))
    neither false b e = (refl, e)

place-behind : (xs ys : List Term) (t : Term) → is_among xs t ≡ false → place_in (xs ++ t ∷ ys) t ≡ length xs
place-behind [] ys t h = cond-true (same_term t t) 0 (suc (place_in ys t)) (same-itself t)
place-behind (x ∷ xs) ys t h = elim (cases_Bool (same_term x t)) [
  | inl e ↦ absurd (false≢true (sym h ∙ or_left (same_term x t) (is_among xs t) e))
  | inr e ↦
      cond-false (same_term x t) 0 (suc (place_in (xs ++ t ∷ ys) t)) e
      ∙ ap suc (place-behind xs ys t (sym (ap (λ b. b || is_among xs t) e) ∙ h))
]

-- the place of an application is how many came before it
pub its-place : (goal : Term) (n : ℕ) (t : Term) → slice_get (walk goal []) n ≡ Some t → is_application t ≡ true
    → place_in (filter is_application (walk goal [])) t ≡ length (filter is_application (take n (walk goal [])))
its-place goal n t e a =
    let all = walk goal [] in
    let seen = take n all in
    let rest = drop (suc n) all in
    ap (λ ts. place_in (filter is_application ts) t) (split-at all n t e)
    ∙ ap (λ ts. place_in ts t) (filter-append is_application seen (t ∷ rest)
    ∙ ap (λ ts. filter is_application seen ++ ts) (cond-true (is_application t) (t ∷ filter is_application rest) (filter is_application rest) a))
    ∙ place-behind (filter is_application seen) (filter is_application rest) t (still-new seen t (fresh-at goal n t e).new)
