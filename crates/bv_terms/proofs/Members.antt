-- Members of a list, and keys that are numbers.
use Rattle.std.proofs.Common.{◌≡◌, ℕ, ◌+◌, ◌<◌, ◌==◌, ◌||◌, Bool, true, false, cond, List, [], ◌∷◌, ◌++◌, length, map, take, Option, Some, None, slice_get, slice_index, get_or, refl, ap, sym, ◌∙◌, subst, arith, inl, inr, ◌↔◌}
use Rattle.std.specs.Option.{IsSome}
use Rattle.std.specs.BTreeSet.{BTreeSet, contains, UpdatesBy}
use Rattle.std.proofs.lemmas.List.{map-append, take_more}
use Rattle.std.proofs.lemmas.List.Folds.{list_any-append}
use Rattle.std.proofs.lemmas.Option.{slice_get_within, slice_get-get_or, slice_get_read}
use Rattle.std.specs.List.{AllByRecursion}
use Rattle.std.specs.Ordering.{nat_cmp}
use Rattle.std.specs.BTreeMap.{is_at}
use Rattle.std.proofs.lemmas.Bool.{eqb-true, eq-eqb, or_cases, or_left, or_right, false≢true}
use Rattle.std.proofs.lemmas.Bool.Decides.{nat_tests}
use Rattle.bv_terms.specs.Needed.{is_in}

-- ---- keys that are numbers

pub at-number : (k q : ℕ) → is_at (nat_cmp k) q ≡ (k == q)
at-number k q = grind (arith, nat_tests)

-- ---- members of a list

pub in-all : (P : ℕ → Type 0) (ps : List ℕ) (q : ℕ) → AllByRecursion P ps → is_in ps q ≡ true → P q
in-all P [] q h e = absurd (false≢true e)
in-all P (p ∷ ps) q h e = elim (or_cases (p == q) (is_in ps q) e) [
  | inl s ↦ subst P (eqb-true p q s) h.0
  | inr r ↦ in-all P ps q h.1 r
]

all-in-more : (ps qs : List ℕ) → AllByRecursion (λ p. is_in ps p ≡ true) qs → (x : ℕ) → AllByRecursion (λ p. is_in (x ∷ ps) p ≡ true) qs
all-in-more ps [] h x = tt
all-in-more ps (q ∷ qs) h x = (or_right (x == q) (is_in ps q) h.0, all-in-more ps qs h.1 x)

pub all-in : (ps : List ℕ) → AllByRecursion (λ p. is_in ps p ≡ true) ps
all-in [] = tt
all-in (p ∷ ps) = (or_left (p == p) (is_in ps p) (eq-eqb p p refl), all-in-more ps ps (all-in ps) p)

pub each : {P Q : ℕ → Type 0} → ((p : ℕ) → P p → Q p) → (ps : List ℕ) → AllByRecursion P ps → AllByRecursion Q ps
each f [] h = tt
each f (p ∷ ps) h = (f p h.0, each f ps h.1)

pub both : (P Q R : ℕ → Type 0) → ((p : ℕ) → P p → Q p → R p) → (ps : List ℕ) → AllByRecursion P ps → AllByRecursion Q ps → AllByRecursion R ps
both P Q R f [] h k = tt
both P Q R f (p ∷ ps) h k = (f p h.0 k.0, both P Q R f ps h.1 k.1)

-- ---- one item more

pub map-more : {A : Type 0} (f : ℕ → A) (xs : List ℕ) (i : ℕ) (old new : List A) (y : A) → i < length xs → old ≡ map f (take i xs) → new ≡ old ++ y ∷ [] → y ≡ f (slice_index xs i)
    → new ≡ map f (take (i + 1) xs)
map-more f xs i old new y l o n e =
    n ∙ ap (λ ys. ys ++ y ∷ []) o ∙ ap (λ z. map f (take i xs) ++ z ∷ []) e ∙ sym (map-append f (take i xs) (slice_index xs i ∷ [])) ∙ ap (map f) (sym (take_more xs i 0 l))

-- what is read at an index
pub read-index : (xs : List ℕ) (k r : ℕ) → k < length xs → r ≡ get_or xs k r → r ≡ slice_index xs k
read-index xs k r l e = let q : Some r ≡ Some (slice_index xs k) = sym (slice_get_read xs (length xs) k r refl l e) ∙ slice_get-get_or xs k 0 l in cc

either-more : (b o t : Bool) → cond b true (o || t) ≡ (o || (t || (b || false)))
either-more true true true = refl
either-more true true false = refl
either-more true false true = refl
either-more true false false = refl
either-more false true true = refl
either-more false true false = refl
either-more false false true = refl
either-more false false false = refl

pub await-more : (old now new : BTreeSet ℕ) (ps : List ℕ) (i p : ℕ) → slice_get ps i ≡ Some p → ((q : ℕ) → contains nat_cmp now q ≡ (contains nat_cmp old q || is_in (take i ps) q))
    → UpdatesBy nat_cmp (nat_cmp p) now new true → (q : ℕ) → contains nat_cmp new q ≡ (contains nat_cmp old q || is_in (take (i + 1) ps) q)
await-more old now new ps i p e h up q =
    let l : i < length ps = slice_get_within ps i p e in
    let p-is : slice_index ps i ≡ p = (let s : Some (slice_index ps i) ≡ Some p = sym (slice_get-get_or ps i 0 l) ∙ e in cc) in
    let whole : is_in (take (i + 1) ps) q ≡ (is_in (take i ps) q || ((p == q) || false))
    = ap (λ xs. is_in xs q) (take_more ps i 0 l ∙ ap (λ x. take i ps ++ x ∷ []) p-is) ∙ list_any-append (λ x. x == q) (take i ps) (p ∷ []) in
    up.0 q ∙ ap (λ b. cond b true (contains nat_cmp now q)) (at-number p q) ∙ ap (cond (p == q) true) (h q) ∙ either-more (p == q) (contains nat_cmp old q) (is_in (take i ps) q)
    ∙ ap (λ b. contains nat_cmp old q || b) (sym whole)

-- nothing was left to take
pub none-left : (r : Option ℕ) (ks : List ℕ) → r ≡ None → (IsSome r ↔ (0 < length ks)) → ks ≡ []
none-left r [] e v = refl
none-left r (k ∷ ks) e v = absurd (false≢true (subst (λ (o : Option ℕ). IsSome o) e (v.1 (omega arith))))
