-- Tests on trails and on what was found, as the loops over them meet them.
use Rattle.std.proofs.Common.{◌≡◌, ℕ, suc, ◌+◌, ◌<◌, ◌≤◌, ◌&&◌, ◌||◌, ◌⊎◌, if◌then◌else◌, Option, inl, inr, Bool, true, false, List, [], ◌∷◌, ◌++◌, map, length, get_or, slice_set, Result, Ok, Err, OnOk, Vec, Global, refl, sym, ap, subst, ◌∙◌, arith}
use Rattle.std.proofs.Math.Bool.{or-false}
use Rattle.std.proofs.lemmas.List.Folds.{list_any-append}
use Rattle.cocoon_num.specs.Names.{same_name}
use Rattle.refinement.specs.Trails.{FieldMark, Marks, set_choice}
use Rattle.role_meaning.specs.Views.{field_of, Keeps, marks_at, passes, place_of, some_goes, some_tried}
use Rattle.role_meaning.specs.declared.trail.Field.{Field}
use Rattle.role_meaning.specs.declared.trail.Trail.{Trail}

-- ---- one or the other

first_of : (a b : Bool) → a ≡ true → (a || b) ≡ true
first_of a b h = ap (λ x. x || b) h

second_of : (a b : Bool) → b ≡ true → (a || b) ≡ true
second_of true b h = refl
second_of false b h = h

one_of : (a b : Bool) → (a || b) ≡ true → (a ≡ true) ⊎ (b ≡ true)
one_of true b h = inl refl
one_of false b h = inr h

last_first : (a b c : Bool) → (b || (a || c)) ≡ true → ((a || b) || c) ≡ true
last_first true b c h = refl
last_first false b c h = h

-- ---- fields

pub here : (i : ℕ) (v : FieldMark) (vs : List FieldMark) (h f : List ℕ) → (same_name h v.header && same_name f v.field) ≡ true → place_of i (v ∷ vs) h f ≡ i
here i v vs h f e = ap (λ b. if b then i else place_of (i + 1) vs h f) e

pub not_here : (i : ℕ) (v : FieldMark) (vs : List FieldMark) (h f : List ℕ) → (same_name h v.header && same_name f v.field) ≡ false → place_of i (v ∷ vs) h f ≡ place_of (i + 1) vs h f
not_here i v vs h f e = ap (λ b. if b then i else place_of (i + 1) vs h f) e

later : (i : ℕ) (vs : List FieldMark) (h f : List ℕ) → place_of (i + 1) vs h f ≡ suc (place_of i vs h f)
later i [] h f = omega arith
later i (v ∷ vs) h f = by_same (same_name h v.header && same_name f v.field) (later (i + 1) vs h f)
  where
    by_same : (b : Bool) → place_of (i + 1 + 1) vs h f ≡ suc (place_of (i + 1) vs h f)
        → (if b then i + 1 else place_of (i + 1 + 1) vs h f) ≡ suc (if b then i else place_of (i + 1) vs h f)
    by_same true e = omega arith
    by_same false e = e

-- a field with its choice set
abbrev with_choice : Field → Option ℕ → Field
with_choice x c = record { header = x.header; field = x.field; choice = c }

set_place : (fs : List Field) (h f : List ℕ) (c : Option ℕ) (d : Field) → place_of 0 (map field_of fs) h f < length fs
    → map field_of (slice_set fs (place_of 0 (map field_of fs) h f) (with_choice (get_or fs (place_of 0 (map field_of fs) h f) d) c)) ≡ set_choice (map field_of fs) h f c
set_place [] h f c d l = absurd (omega arith)
set_place (x ∷ xs) h f c d l = by_same (same_name h x.header.now && same_name f x.field.now) l (later 0 (map field_of xs) h f) (λ m. set_place xs h f c d m)
  where
    by_same : (b : Bool) → (if b then 0 else place_of 1 (map field_of xs) h f) < length (x ∷ xs)
        → place_of 1 (map field_of xs) h f ≡ suc (place_of 0 (map field_of xs) h f)
        → (place_of 0 (map field_of xs) h f < length xs → map field_of (slice_set xs (place_of 0 (map field_of xs) h f) (with_choice (get_or xs (place_of 0 (map field_of xs) h f) d) c)) ≡ set_choice (map field_of xs) h f c)
        → map field_of (slice_set (x ∷ xs) (if b then 0 else place_of 1 (map field_of xs) h f) (with_choice (get_or (x ∷ xs) (if b then 0 else place_of 1 (map field_of xs) h f) d) c))
        ≡ (if b then record (field_of x) { choice = c } ∷ map field_of xs else field_of x ∷ set_choice (map field_of xs) h f c)
    by_same true l q more = refl
    by_same false l q more =
        let le : suc (place_of 0 (map field_of xs) h f) < suc (length xs) = subst (λ n. n < suc (length xs)) q l in
        ap (λ n. map field_of (slice_set (x ∷ xs) n (with_choice (get_or (x ∷ xs) n d) c))) q ∙ ap (λ ms. field_of x ∷ ms) (more (omega arith))

-- what stands at the place has its choice set
pub set_at : (fs : List Field) (h f : List ℕ) (c : Option ℕ) (d : Field) (p : ℕ) → p ≡ place_of 0 (map field_of fs) h f → p < length fs
    → map field_of (slice_set fs p (record { header = (get_or fs p d).header; field = (get_or fs p d).field; choice = c })) ≡ set_choice (map field_of fs) h f c
set_at fs h f c d p e l =
    ap (λ n. map field_of (slice_set fs n (with_choice (get_or fs n d) c))) e ∙ set_place fs h f c d (subst (λ n. n < length fs) e l)

no_place : (fs : List Field) (h f : List ℕ) (c : Option ℕ) → length fs ≤ place_of 0 (map field_of fs) h f → map field_of fs ≡ set_choice (map field_of fs) h f c
no_place [] h f c l = refl
no_place (x ∷ xs) h f c l = by_same (same_name h x.header.now && same_name f x.field.now) l (later 0 (map field_of xs) h f) (λ m. no_place xs h f c m)
  where
    by_same : (b : Bool) → length (x ∷ xs) ≤ (if b then 0 else place_of 1 (map field_of xs) h f)
        → place_of 1 (map field_of xs) h f ≡ suc (place_of 0 (map field_of xs) h f)
        → (length xs ≤ place_of 0 (map field_of xs) h f → map field_of xs ≡ set_choice (map field_of xs) h f c)
        → field_of x ∷ map field_of xs ≡ (if b then record (field_of x) { choice = c } ∷ map field_of xs else field_of x ∷ set_choice (map field_of xs) h f c)
    by_same true l q more = absurd (omega arith)
    by_same false l q more =
        let le : suc (length xs) ≤ suc (place_of 0 (map field_of xs) h f) = subst (λ n. suc (length xs) ≤ n) q l in
        ap (λ ms. field_of x ∷ ms) (more (omega arith))

-- where no field has the names, nothing is set
pub not_set : (fs : List Field) (h f : List ℕ) (c : Option ℕ) (p : ℕ) → p ≡ place_of 0 (map field_of fs) h f → length fs ≤ p → map field_of fs ≡ set_choice (map field_of fs) h f c
not_set fs h f c p e l = no_place fs h f c (subst (λ n. length fs ≤ n) e l)

-- ---- one more, one less

some_push : (t : Marks → Bool) (ts : List Trail) (x : Trail) → some_goes t (ts ++ (x ∷ [])) ≡ (some_goes t ts || t (marks_at x))
some_push t ts x = list_any-append (λ y. t (marks_at y)) ts (x ∷ []) ∙ ap (λ b. some_goes t ts || b) (or-false (t (marks_at x)))

tried_push : (u : List ℕ → Bool) (vs : List (Vec ℕ Global)) (v : Vec ℕ Global) → some_tried u (vs ++ (v ∷ [])) ≡ (some_tried u vs || u v.items)
tried_push u vs v = list_any-append (λ (y : Vec ℕ Global). u y.items) vs (v ∷ []) ∙ ap (λ b. some_tried u vs || b) (or-false (u v.items))

-- a trail goes on
pub pushed : (t : Marks → Bool) (u : List ℕ → Bool) (found : List (Vec ℕ Global)) (old new : List Trail) (x : Trail) → new ≡ old ++ (x ∷ [])
    → Keeps (t (marks_at x) || passes t u old found) (passes t u new found)
pushed t u found old new x e = λ h.
    ap (λ ts. passes t u ts found) e ∙ ap (λ b. b || some_tried u found) (some_push t old x) ∙ last_first (some_goes t old) (t (marks_at x)) (some_tried u found) h

-- choices are tried
pub tried_more : (t : Marks → Bool) (u : List ℕ → Bool) (onward : List Trail) (old new : List (Vec ℕ Global)) (v : Vec ℕ Global) (ns : List ℕ) → new ≡ old ++ (v ∷ []) → v.items ≡ ns
    → Keeps (u ns || passes t u onward old) (passes t u onward new)
tried_more t u onward old new v ns e same = λ h.
    ap (λ vs. passes t u onward vs) e ∙ ap (λ b. some_goes t onward || b) (tried_push u old v)
    ∙ put (some_goes t onward) (some_tried u old) (u v.items) (ap (λ b. b || passes t u onward old) (ap u same) ∙ h)
  where
    put : (a b c : Bool) → (c || (a || b)) ≡ true → (a || (b || c)) ≡ true
    put true b c h = refl
    put false true c h = refl
    put false false true h = refl
    put false false false h = h

-- one trail is taken from the list, and what it passes is kept
pub one_less : (t : Marks → Bool) (before rest : List Trail) (x : Trail) (p q : Bool) → before ≡ rest ++ (x ∷ []) → Keeps (t (marks_at x) || p) q
    → Keeps (some_goes t before || p) (some_goes t rest || q)
one_less t before rest x p q e keeps = λ h.
    less (some_goes t rest) (t (marks_at x)) p q keeps (sym (ap (λ b. b || p) (ap (some_goes t) e ∙ some_push t rest x)) ∙ h)
  where
    less : (a b p q : Bool) → Keeps (b || p) q → ((a || b) || p) ≡ true → (a || q) ≡ true
    less true b p q k h = refl
    less false b p q k h = k h

pub then_keeps : (a b c : Bool) → Keeps a b → Keeps b c → Keeps a c
then_keeps a b c f g = λ h. g (f h)

-- the only trail of a list
pub only_one : (t : Marks → Bool) (x : Trail) (c : Bool) → Keeps (t (marks_at x) || c) (some_goes t (x ∷ []) || c)
only_one t x c = λ h. ap (λ b. b || c) (or-false (t (marks_at x))) ∙ h

none_goes : (ts : List Trail) → some_goes (λ m. false) ts ≡ false
none_goes [] = refl
none_goes (t ∷ ts) = none_goes ts

-- no trail goes on behind a `fork`
pub forked : (u : List ℕ → Bool) (ts : List Trail) (found : List (Vec ℕ Global)) (a : Bool) → Keeps a (passes (λ m. false) u ts found) → Keeps a (some_tried u found)
forked u ts found a k = λ h. sym (ap (λ b. b || some_tried u found) (none_goes ts)) ∙ k h

-- ---- branches

pub OnOk-then : {X E : Type 0} (r : Result X E) (P Q : Type 0) → (P → Q) → OnOk r P → OnOk r Q
OnOk-then (Ok x) P Q f h = f h
OnOk-then (Err e) P Q f h = tt

-- what leaves a block is kept
pub left : (f g o0 o1 s0 s1 : Bool) → Keeps (f || s0) (g || s1) → Keeps (g || (o0 || s1)) (o1 || s1) → Keeps (f || (o0 || s0)) (o1 || s1)
left f g o0 o1 s0 s1 k l = λ h. elim (one_of f (o0 || s0) h) [
  | inl a ↦ gone (k (first_of f s0 a))
  | inr b ↦ elim (one_of o0 s0 b) [
    | inl o ↦ l (second_of g (o0 || s1) (first_of o0 s1 o))
    | inr s ↦ gone (k (second_of f s0 s))
  ]
]
  where
    gone : (g || s1) ≡ true → (o1 || s1) ≡ true
    gone h = elim (one_of g s1 h) [
      | inl a ↦ l (first_of g (o0 || s1) a)
      | inr s ↦ l (second_of g (o0 || s1) (second_of o0 s1 s))
    ]

-- two branches, one after the other
pub branched : (f g p q r : Bool) → Keeps (f || p) q → Keeps (g || q) r → Keeps ((f || g) || p) r
branched f g p q r k l = λ h. elim (one_of (f || g) p h) [
  | inl a ↦ elim (one_of f g a) [
    | inl x ↦ l (second_of g q (k (first_of f p x)))
    | inr x ↦ l (first_of g q x)
  ]
  | inr b ↦ l (second_of g q (k (second_of f p b)))
]
