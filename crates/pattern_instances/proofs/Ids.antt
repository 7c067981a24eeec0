-- Tuples by numbers of an arena are the tuples of its terms.
use Rattle.std.proofs.Common.{◌≡◌, ℕ, zero, suc, ◌<◌, ◌==◌, ◌&&◌, ◌||◌, Bool, true, false, List, [], ◌∷◌, ◌++◌, fold, get_or, length, map, Option, Some, None, if◌then◌else◌, refl, ap, sym, ◌∙◌, subst, arith, inl, inr}
use Rattle.std.specs.Prelude.{filter_map, option_and_then, option_map, slice_get}
use Rattle.std.specs.List.{AllByRecursion, cons_option, list_any}
use Rattle.std.proofs.lemmas.Bool.{cases_Bool, eqb-true, eq-eqb}
use Rattle.std.proofs.lemmas.List.{map-append}
use Rattle.std.proofs.lemmas.List.Elements.{recursion_from_All}
use Rattle.cocoon_num.specs.Names.{same_name}
use Rattle.bv_terms.specs.declared.node.Node.{Node}
use Rattle.bv_terms.specs.declared.node.Node.TheVariants.{Constant, Input, Apply, Not, Binary, Slice, Pick}
use Rattle.bv_terms.specs.Arenas.{IsArena, args_of, made_of, parts, term_at}
use Rattle.bv_terms.specs.TermTrees.{Term}
use Rattle.bv_terms.specs.Walks.{same_term}
use Rattle.expr_terms.specs.Variables.{terms_at}
use Rattle.query_laws.specs.Patterns.{Pattern, arg_count}
use Rattle.query_laws.specs.Tuples as spec
use Rattle.query_laws.specs.Tuples.{arg_at, same_tuple, tuple_of, with_tuple}
use Rattle.pattern_instances.specs.Found.{HasPlaces, HavePlaces, all_found, args_at, tuple_found, tuple_in, with_ids}

pub all-both : {A : Type 0} (P : A → Type 0) (xs ys : List A) → AllByRecursion P xs → AllByRecursion P ys → AllByRecursion P (xs ++ ys)
all-both P [] ys h k = k
all-both P (x ∷ xs) ys h k = (h.0, all-both P xs ys h.1 k)

-- ---- arguments

arg-is : (f : ℕ → Term) (args : List ℕ) (k : ℕ) → k < length args → arg_at (args_of f args) k ≡ f (get_or args k 0)
arg-is f [] k l = absurd (omega (arith, l))
arg-is f (a ∷ args) zero l = refl
arg-is f (a ∷ args) (suc k) l = arg-is f args k (omega (arith, l))

args-are : (f : ℕ → Term) (args ks : List ℕ) → AllByRecursion (λ k. k < length args) ks → map f (args_at args ks) ≡ map (arg_at (args_of f args)) ks
args-are f args [] h = refl
args-are f args (k ∷ ks) h = λ i. sym (arg-is f args k h.0) i ∷ args-are f args ks h.1 i

pub as-many : (f : ℕ → Term) (args : List ℕ) → arg_count (args_of f args) ≡ length args
as-many f [] = refl
as-many f (a ∷ args) = ap suc (as-many f args)

inside : (P : ℕ → Type 0) (args : List ℕ) (k : ℕ) → k < length args → AllByRecursion P args → P (get_or args k 0)
inside P [] k l h = absurd (omega (arith, l))
inside P (a ∷ args) zero l h = h.0
inside P (a ∷ args) (suc k) l h = inside P args k (omega (arith, l)) h.1

all-inside : (P : ℕ → Type 0) (args ks : List ℕ) → AllByRecursion (λ k. k < length args) ks → AllByRecursion P args → AllByRecursion P (args_at args ks)
all-inside P args [] l h = tt
all-inside P args (k ∷ ks) l h = (inside P args k l.0 h, all-inside P args ks l.1 h)

weaker : (P Q : ℕ → Type 0) → ((k : ℕ) → P k → Q k) → (xs : List ℕ) → AllByRecursion P xs → AllByRecursion Q xs
weaker P Q f [] h = tt
weaker P Q f (x ∷ xs) h = (f x h.0, weaker P Q f xs h.1)

pub there-at : {A : Type 0} (xs : List A) (k : ℕ) → k < length xs → (x : A) × (slice_get xs k ≡ Some x)
there-at [] k l = absurd (omega (arith, l))
there-at (x ∷ xs) zero l = (x, refl)
there-at (x ∷ xs) (suc k) l = there-at xs k (omega (arith, l))

-- what is known of an arena
pub record Known (nodes : List Node) : Type 0 where
  pub arena : IsArena nodes
  pub itself : (t : Term) → same_term t t ≡ true
  pub only : (t u : Term) → same_term t u ≡ true → t ≡ u
  pub one : (j k : ℕ) → j < length nodes → k < length nodes → term_at nodes j ≡ term_at nodes k → j ≡ k

module _ (nodes : List Node) (known : Known nodes) where
  abbrev pub There : List ℕ → Type 0
  There ids = AllByRecursion (λ k. k < length nodes) ids

  -- ---- equal tuples

  same-id : (x y : ℕ) → x < length nodes → y < length nodes → same_term (term_at nodes y) (term_at nodes x) ≡ (x == y)
  same-id x y l m = elim (cases_Bool (x == y)) [
    | inl e ↦
        let is : x ≡ y = eqb-true x y e in
        subst (λ z. same_term (term_at nodes z) (term_at nodes x) ≡ true) is (known.itself (term_at nodes x)) ∙ sym e
    | inr e ↦ elim (cases_Bool (same_term (term_at nodes y) (term_at nodes x))) [
      | inl s ↦ absurd (let is : x ≡ y = known.one x y l m (sym (known.only (term_at nodes y) (term_at nodes x) s)) in let t = eq-eqb x y is in cc)
      | inr s ↦ s ∙ sym e
    ]
  ]

  same-ids : (xs ys : List ℕ) → There xs → There ys → same_tuple (terms_at nodes ys) (terms_at nodes xs) ≡ same_name xs ys
  same-ids [] [] h k = refl
  same-ids [] (y ∷ ys) h k = refl
  same-ids (x ∷ xs) [] h k = refl
  same-ids (x ∷ xs) (y ∷ ys) h k = λ i. same-id x y h.0 k.0 i && same-ids xs ys h.1 k.1 i

  among-ids : (seen : List (List ℕ)) (xs : List ℕ) → AllByRecursion There seen → There xs
      → list_any (λ us. same_tuple us (terms_at nodes xs)) (map (terms_at nodes) seen) ≡ list_any (same_name xs) seen
  among-ids [] xs h k = refl
  among-ids (ys ∷ seen) xs h k = λ i. same-ids xs ys k h.0 i || among-ids seen xs h.1 k i

  if-map : (b : Bool) (seen : List (List ℕ)) (xs : List ℕ)
      → map (terms_at nodes) (if b then seen else seen ++ xs ∷ []) ≡ (if b then map (terms_at nodes) seen else map (terms_at nodes) seen ++ terms_at nodes xs ∷ [])
  if-map true seen xs = refl
  if-map false seen xs = map-append (terms_at nodes) seen (xs ∷ [])

  with-is : (seen : List (List ℕ)) (xs : List ℕ) → AllByRecursion There seen → There xs → map (terms_at nodes) (with_ids seen xs) ≡ with_tuple (map (terms_at nodes) seen) (terms_at nodes xs)
  with-is seen xs h k =
      if-map (list_any (same_name xs) seen) seen xs
      ∙ ap (λ b. if b then map (terms_at nodes) seen else map (terms_at nodes) seen ++ terms_at nodes xs ∷ []) (sym (among-ids seen xs h k))

  if-there : (b : Bool) (seen : List (List ℕ)) (xs : List ℕ) → AllByRecursion There seen → There xs → AllByRecursion There (if b then seen else seen ++ xs ∷ [])
  if-there true seen xs h k = h
  if-there false seen xs h k = all-both There seen (xs ∷ []) h (k, tt)

  pub distinct-are : (seen tuples : List (List ℕ)) → AllByRecursion There seen → AllByRecursion There tuples
      → AllByRecursion There (fold with_ids seen tuples) × (map (terms_at nodes) (fold with_ids seen tuples) ≡ fold with_tuple (map (terms_at nodes) seen) (map (terms_at nodes) tuples))
  distinct-are seen [] h k = (h, refl)
  distinct-are seen (xs ∷ tuples) h k =
      let r = distinct-are (with_ids seen xs) tuples (if-there (list_any (same_name xs) seen) seen xs h k.0) k.1 in
      (r.0, r.1 ∙ ap (λ s. fold with_tuple s (map (terms_at nodes) tuples)) (with-is seen xs h k.0))

  -- ---- what one application gives

  abbrev Gives : ℕ → Pattern → Option (List ℕ) → Type 0
  Gives id p o = ((xs : List ℕ) → o ≡ Some xs → There xs) × (option_map (terms_at nodes) o ≡ tuple_of (term_at nodes id) p)

  applied : (id : ℕ) (p : Pattern) (f : ℕ) (args : List ℕ) (w : ℕ) → There args → (f ≡ p.function → AllByRecursion (λ k. k < length args) p.places)
      → (b : Bool) → (f == p.function) ≡ b
      → ((xs : List ℕ) → (if b then Some (args_at args p.places) else None) ≡ Some xs → There xs)
      × (option_map (terms_at nodes) (if b then Some (args_at args p.places) else None) ≡ (if b then Some (map (arg_at (args_of (term_at nodes) args)) p.places) else None))
  applied id p f args w there places true e =
      let within = places (eqb-true f p.function e) in (
        λ xs is. let same : args_at args p.places ≡ xs = cc in subst There same (all-inside (λ k. k < length nodes) args p.places within there),
        ap Some (args-are (term_at nodes) args p.places within),
      )
  applied id p f args w there places false e = (λ xs is. absurd (cc), refl)

  node-gives : (id : ℕ) (p : Pattern) → HasPlaces nodes id p → (node : Node) → slice_get nodes id ≡ Some node → There (parts node) → term_at nodes id ≡ made_of (term_at nodes) node → Gives id p (tuple_in node p)
  node-gives id p places (Apply f args w) is there made =
      let r = applied id p f args w there (λ e. places args w (is ∙ ap (λ g. Some (Apply g args w)) e)) (f == p.function) refl in
      (r.0, r.1 ∙ ap (λ t. tuple_of t p) (sym made))
  node-gives id p places (Constant b) is there made = (λ xs e. absurd (cc), ap (λ t. tuple_of t p) (sym made))
  node-gives id p places (Input i w) is there made = (λ xs e. absurd (cc), ap (λ t. tuple_of t p) (sym made))
  node-gives id p places (Not a) is there made = (λ xs e. absurd (cc), ap (λ t. tuple_of t p) (sym made))
  node-gives id p places (Binary op a b) is there made = (λ xs e. absurd (cc), ap (λ t. tuple_of t p) (sym made))
  node-gives id p places (Slice a high low) is there made = (λ xs e. absurd (cc), ap (λ t. tuple_of t p) (sym made))
  node-gives id p places (Pick c a b) is there made = (λ xs e. absurd (cc), ap (λ t. tuple_of t p) (sym made))

  pub gives : (id : ℕ) → id < length nodes → (p : Pattern) → HasPlaces nodes id p → Gives id p (tuple_found nodes id p)
  gives id l p places =
      let at = there-at nodes id l in
      subst (λ o. Gives id p (option_and_then (λ node. tuple_in node p) o)) (sym at.1)
      (node-gives id p places at.0 at.1
      (weaker (λ k. k < id) (λ k. k < length nodes) (λ k h. omega (arith, h, l)) (parts at.0) (recursion_from_All (λ k. k < id) (parts at.0) (known.arena.below id at.0 at.1)))
      (known.arena.made id at.0 at.1))

  -- ---- what all give

  abbrev GiveAll : (tuples : List (List ℕ)) → List (List Term) → Type 0
  GiveAll tuples ts = AllByRecursion There tuples × (map (terms_at nodes) tuples ≡ ts)

  one-more : (o : Option (List ℕ)) (t : Option (List Term)) (tuples : List (List ℕ)) (ts : List (List Term)) → ((xs : List ℕ) → o ≡ Some xs → There xs) → option_map (terms_at nodes) o ≡ t
      → GiveAll tuples ts → GiveAll (cons_option o tuples) (cons_option t ts)
  one-more None t tuples ts h e g = subst (λ x. GiveAll tuples (cons_option x ts)) e g
  one-more (Some xs) t tuples ts h e g = subst (λ x. GiveAll (xs ∷ tuples) (cons_option x ts)) e ((h xs refl, g.0), (λ i. terms_at nodes xs ∷ g.1 i))

  patterns-give : (id : ℕ) → id < length nodes → (ps : List Pattern) → HavePlaces nodes ps id → GiveAll (filter_map (tuple_found nodes id) ps) (filter_map (tuple_of (term_at nodes id)) ps)
  patterns-give id l [] h = (tt, refl)
  patterns-give id l (p ∷ ps) h =
      let g = gives id l p h.0 in
      one-more (tuple_found nodes id p) (tuple_of (term_at nodes id) p) (filter_map (tuple_found nodes id) ps) (filter_map (tuple_of (term_at nodes id)) ps) g.0 g.1 (patterns-give id l ps h.1)

  pub all-give : (ps : List Pattern) (ids : List ℕ) → There ids → AllByRecursion (HavePlaces nodes ps) ids → GiveAll (all_found nodes ps ids) (spec.tuples_at ps (map (term_at nodes) ids))
  all-give ps [] h k = (tt, refl)
  all-give ps (id ∷ ids) h k =
      let a = patterns-give id h.0 ps k.0 in
      let b = all-give ps ids h.1 k.1 in (
        all-both There (filter_map (tuple_found nodes id) ps) (all_found nodes ps ids) a.0 b.0,
        map-append (terms_at nodes) (filter_map (tuple_found nodes id) ps) (all_found nodes ps ids) ∙ (λ i. a.1 i ++ b.1 i),
      )
