-- The terms that a term is made of, from the largest number down.
use Rattle.std.proofs.Common.{◌≡◌, ◌≢◌, ℕ, ◌+◌, ◌-◌, ◌++◌, ◌==◌, ◌||◌, ◌<◌, ◌≤◌, true, false, List, [], ◌∷◌, length, length-append, Some, slice_get, refl, ap, sym, ◌∙◌, subst, arith, get_or, zero, suc, inl, inr, ◌⊎◌}
use Rattle.std.specs.List.{AllByRecursion, list_any}
use Rattle.std.specs.Ordering.{nat_cmp}
use Rattle.std.specs.BTreeMap.{is_at}
use Rattle.std.specs.BTreeSet.{BTreeSet, contains, UpdatesBy, IsUpperBound}
use Rattle.std.proofs.lemmas.Map.Keys.{ge_from_not_lt}
use Rattle.std.proofs.lemmas.List.Elements.{recursion_from_All}
use Rattle.std.proofs.lemmas.Bool.{cases_eq, cases_lt, cases_Bool, cond-true, cond-false, eqb-true, eq-eqb, or_cases, or_left, or_right, false≢true}
use Rattle.std.proofs.lemmas.Option.{slice_get_within, slice_get-get_or}
use Rattle.bv_terms.specs.declared.node.Node.{Node}
use Rattle.bv_terms.specs.declared.eval.Env.{Env}
use Rattle.bv_terms.specs.Arenas.{parts, term_at, IsArena}
use Rattle.bv_terms.specs.Environments.{Covers}
use Rattle.bv_terms.specs.Needed.{AreNeeded, AreFalling, IsAmong, IsMadeOf, is_in, part_of, whole}
use Rattle.bv_terms.proofs.Members.{at-number, in-all, all-in, each}
use Rattle.bv_terms.proofs.EvalFacts.{parts-covered}
use Rattle.bv_terms.proofs.Seams.{snoc-cases, snoc-old, snoc-last}

-- ---- members of a list

among-more : (ids : List ℕ) (next k : ℕ) → IsAmong ids k → IsAmong (ids ++ next ∷ []) k
among-more ids next k h = (h.0, snoc-old ids next h.0 (slice_get_within ids h.0 k h.1) ∙ h.1)

among-last : (ids : List ℕ) (next : ℕ) → IsAmong (ids ++ next ∷ []) next
among-last ids next = (length ids, snoc-last ids next (length ids) refl)

among-cases : (ids : List ℕ) (next k : ℕ) → IsAmong (ids ++ next ∷ []) k → IsAmong ids k ⊎ (next ≡ k)
among-cases ids next k h = elim (snoc-cases ids next h.0 k h.1) [ inl p ↦ inl (h.0, p.1) | inr p ↦ inr p.1 ]

-- ---- one number is taken

abbrev pub Waits : BTreeSet ℕ → ℕ → Type 0
Waits waiting q = contains nat_cmp waiting q ≡ true

-- the largest is taken, and the parts of its node wait
pub record Taken (old new : BTreeSet ℕ) (next : ℕ) (ps : List ℕ) : Type 0 where
  pub itself : Waits old next
  pub greatest : (q : ℕ) → Waits old q → q ≤ next
  pub kept : (q : ℕ) → Waits old q → (next ≡ q) ⊎ Waits new q
  pub only : (q : ℕ) → Waits new q → ((q ≢ next) × Waits old q) ⊎ (is_in ps q ≡ true)
  pub parts : AllByRecursion (Waits new) ps

pub taken : (old rest new : BTreeSet ℕ) (next : ℕ) (ps : List ℕ) → Waits old next → IsUpperBound nat_cmp old next → UpdatesBy nat_cmp (nat_cmp next) old rest false
    → ((q : ℕ) → contains nat_cmp new q ≡ (contains nat_cmp rest q || is_in ps q)) → Taken old new next ps
taken old rest new next ps itself top up more = record {
  itself = itself;
  greatest = λ q w. ge_from_not_lt next q (top q w);
  kept = λ q w. elim (cases_Bool (next == q)) [
    | inl e ↦ inl (eqb-true next q e)
    | inr e ↦ inr (more q ∙ or_left (contains nat_cmp rest q) (is_in ps q) (stays q e ∙ w))
  ];
  only = λ q w. elim (or_cases (contains nat_cmp rest q) (is_in ps q) (sym (more q) ∙ w)) [
    | inl r ↦ elim (cases_Bool (next == q)) [
      | inl e ↦ absurd (false≢true (sym (leaves q e) ∙ r))
      | inr e ↦ inl (λ s. false≢true (sym e ∙ eq-eqb next q (sym s)), sym (stays q e) ∙ r)
    ]
    | inr p ↦ inr p
  ];
  parts = each (λ p i. more p ∙ or_right (contains nat_cmp rest p) (is_in ps p) i) ps (all-in ps);
}
  where
    stays : (q : ℕ) → (next == q) ≡ false → contains nat_cmp rest q ≡ contains nat_cmp old q
    stays q e = up.0 q ∙ cond-false (is_at (nat_cmp next) q) false (contains nat_cmp old q) (at-number next q ∙ e)

    leaves : (q : ℕ) → (next == q) ≡ true → contains nat_cmp rest q ≡ false
    leaves q e = up.0 q ∙ cond-true (is_at (nat_cmp next) q) false (contains nat_cmp old q) (at-number next q ∙ e)

-- ---- the loop

abbrev pub IsKnown : List ℕ → BTreeSet ℕ → ℕ → Type 0
IsKnown ids waiting k = IsAmong ids k ⊎ Waits waiting k

-- the last number that was taken, else one that is larger than all
abbrev pub bound : List ℕ → ℕ → ℕ
bound ids id = get_or ids (length ids - 1) (suc id)

pub record NeededFrom (nodes : List Node) (id : ℕ) (ids : List ℕ) (waiting : BTreeSet ℕ) : Type 0 where
  pub arena : IsArena nodes
  pub there : id < length nodes
  pub itself : IsKnown ids waiting id
  pub within : (k : ℕ) → IsKnown ids waiting k → k ≤ id
  pub falling : AreFalling ids
  pub below : (q i a : ℕ) → Waits waiting q → slice_get ids i ≡ Some a → q < a
  pub parts_ : (k : ℕ) (node : Node) → IsAmong ids k → slice_get nodes k ≡ Some node → AllByRecursion (IsKnown ids waiting) (parts node)
  pub only : (k : ℕ) → IsKnown ids waiting k → IsMadeOf nodes id k

known-more : (ids : List ℕ) (old new : BTreeSet ℕ) (next : ℕ) (ps : List ℕ) → Taken old new next ps → (k : ℕ) → IsKnown ids old k → IsKnown (ids ++ next ∷ []) new k
known-more ids old new next ps t k (inl a) = inl (among-more ids next k a)
known-more ids old new next ps t k (inr w) = elim (t.kept k w) [
  | inl e ↦ inl (subst (IsAmong (ids ++ next ∷ [])) e (among-last ids next))
  | inr n ↦ inr n
]

-- what holds of all that was known, and of the parts, holds of all that is known then
known-cases : (P : ℕ → Type 0) (ids : List ℕ) (old new : BTreeSet ℕ) (next : ℕ) (ps : List ℕ) → Taken old new next ps
    → ((k : ℕ) → IsKnown ids old k → P k) → AllByRecursion P ps → (k : ℕ) → IsKnown (ids ++ next ∷ []) new k → P k
known-cases P ids old new next ps t f h k (inl a) = elim (among-cases ids next k a) [
  | inl b ↦ f k (inl b)
  | inr e ↦ subst P e (f next (inr t.itself))
]
known-cases P ids old new next ps t f h k (inr w) = elim (t.only k w) [
  | inl o ↦ f k (inr o.1)
  | inr i ↦ in-all P ps k h i
]

-- the parts of a node that is there
parts-below : (nodes : List Node) (k : ℕ) (node : Node) → IsArena nodes → slice_get nodes k ≡ Some node → AllByRecursion (λ p. p < k) (parts node)
parts-below nodes k node a e = recursion_from_All (λ p. p < k) (parts node) (a.below k node e)

pub needed-step : (nodes : List Node) (id : ℕ) (ids more : List ℕ) (old new : BTreeSet ℕ) (next : ℕ) (node : Node) → NeededFrom nodes id ids old
    → slice_get nodes next ≡ Some node → Taken old new next (parts node) → more ≡ ids ++ next ∷ [] → NeededFrom nodes id more new
needed-step nodes id ids more old new next node h e t m =
    let ps = parts node in
    let smaller : AllByRecursion (λ p. p < next) ps = parts-below nodes next node h.arena e in
    let next-within : next ≤ id = h.within next (inr t.itself) in
    let under : (q : ℕ) → Waits new q → q < next
    = (λ q w. elim (t.only q w) [
      | inl o ↦ (let l = t.greatest q o.1 in let n = o.0 in omega arith)
      | inr i ↦ in-all (λ p. p < next) ps q smaller i
    ]) in
    subst (λ xs. NeededFrom nodes id xs new) (sym m) (record {
      arena = h.arena;
      there = h.there;
      itself = known-more ids old new next ps t id h.itself;
      within = known-cases (λ k. k ≤ id) ids old new next ps t h.within (each (λ p l. omega arith) ps smaller);
      falling = λ i j a b l f g. elim (snoc-cases ids next j b g) [
        | inl q ↦ h.falling i j a b l (sym (snoc-old ids next i (let p = q.0 in omega arith)) ∙ f) q.1
        | inr q ↦ subst (λ x. x < a) q.1 (h.below next i a t.itself (sym (snoc-old ids next i (let p = q.0 in omega arith)) ∙ f))
      ];
      below = λ q i a w f. elim (snoc-cases ids next i a f) [
        | inl r ↦ (let l = under q w in let g = h.below next i a t.itself r.1 in omega arith)
        | inr r ↦ subst (λ x. q < x) r.1 (under q w)
      ];
      parts_ = λ k n a f. elim (among-cases ids next k a) [
        | inl b ↦ each (known-more ids old new next ps t) (parts n) (h.parts_ k n b f)
        | inr s ↦
            let same : node ≡ n = (let q : Some node ≡ Some n = sym e ∙ ap (slice_get nodes) s ∙ f in cc) in
            subst (λ (x : Node). AllByRecursion (IsKnown (ids ++ next ∷ []) new) (parts x)) same (each (λ p w. inr w) ps t.parts)
      ];
      only = known-cases (IsMadeOf nodes id) ids old new next ps t h.only
          (each (λ p i. part_of (h.only next (inr t.itself)) e i) ps (all-in ps));
    })

-- nothing but the term itself waits at first
pub needed-first : (nodes : List Node) (id : ℕ) (ids : List ℕ) (empty waiting : BTreeSet ℕ) → IsArena nodes → id < length nodes → ids ≡ [] → empty.keys ≡ []
    → UpdatesBy nat_cmp (nat_cmp id) empty waiting true → NeededFrom nodes id ids waiting
needed-first nodes id ids empty waiting a l n z up = subst (λ xs. NeededFrom nodes id xs waiting) (sym n) (record {
  arena = a;
  there = l;
  itself = inr up.1;
  within = λ k h. subst (λ x. x ≤ id) (sym (only k h)) (omega arith);
  falling = λ i j x y less f g. absurd cc;
  below = λ q i x w f. absurd cc;
  parts_ = λ k node h e. absurd (none k h);
  only = λ k h. subst (IsMadeOf nodes id) (sym (only k h)) whole;
})
  where
    none : (k : ℕ) → IsAmong [] k → ⊥
    none k h = let q = h.1 in cc

    only : (k : ℕ) → IsKnown [] waiting k → k ≡ id
    only k (inl h) = absurd (none k h)
    only k (inr w) = elim (cases_Bool (id == k)) [
      | inl e ↦ sym (eqb-true id k e)
      | inr e ↦ absurd (false≢true (ap (list_any (is_at (nat_cmp k))) (sym z) ∙ sym (up.0 k ∙ cond-false (is_at (nat_cmp id) k) true (contains nat_cmp empty k) (at-number id k ∙ e)) ∙ w))
    ]

pub needed-all : (nodes : List Node) (id : ℕ) (ids : List ℕ) (waiting : BTreeSet ℕ) → NeededFrom nodes id ids waiting → waiting.keys ≡ [] → AreNeeded nodes id ids
needed-all nodes id ids waiting h z = record {
  arena = h.arena;
  itself = now id h.itself;
  within = λ k a. h.within k (inl a);
  falling = h.falling;
  parts_ = λ k node a e. each now (parts node) (h.parts_ k node a e);
  only = λ k a. h.only k (inl a);
}
  where
    now : (k : ℕ) → IsKnown ids waiting k → IsAmong ids k
    now k (inl a) = a
    now k (inr w) = absurd (false≢true (ap (list_any (is_at (nat_cmp k))) (sym z) ∙ w))

-- what holds of a term and goes over to parts holds of all that it is made of
pub inherits : (nodes : List Node) (id : ℕ) (P : ℕ → Type 0) → ((k : ℕ) (node : Node) → slice_get nodes k ≡ Some node → P k → AllByRecursion P (parts node)) → P id
    → (k : ℕ) → IsMadeOf nodes id k → P k
inherits nodes id P f h k whole = h
inherits nodes id P f h p (part_of {k = k} {node = node} m e i) = in-all P (parts node) p (f k node e (inherits nodes id P f h k m)) i

pub covered : (nodes : List Node) (id : ℕ) (env : Env) → IsArena nodes → Covers env (term_at nodes id) → (k : ℕ) → IsMadeOf nodes id k → Covers env (term_at nodes k)
covered nodes id env a c =
    inherits nodes id (λ k. Covers env (term_at nodes k))
    (λ k node e h. recursion_from_All (λ p. Covers env (term_at nodes p)) (parts node) (parts-covered env (term_at nodes) node (subst (Covers env) (a.made k node e) h))) c

-- the numbers that are taken fall
pub needed-smaller : (nodes : List Node) (id : ℕ) (ids more : List ℕ) (waiting : BTreeSet ℕ) (next : ℕ) → NeededFrom nodes id ids waiting → Waits waiting next → more ≡ ids ++ next ∷ []
    → bound more id < bound ids id
needed-smaller nodes id [] more waiting next h w m = subst (λ xs. bound xs id < suc id) (sym m) (let l = h.within next (inr w) in omega arith)
needed-smaller nodes id (x ∷ xs) more waiting next h w m =
    let ids = x ∷ xs in
    let last = get_or ids (length ids - 1) (suc id) in
    let at : slice_get ids (length ids - 1) ≡ Some last = slice_get-get_or ids (length ids - 1) (suc id) (omega arith) in
    let here : slice_get (ids ++ next ∷ []) (length (ids ++ next ∷ []) - 1) ≡ Some next = snoc-last ids next (length (ids ++ next ∷ []) - 1) (omega (arith, length-append ids (next ∷ []))) in
    let is : bound (ids ++ next ∷ []) id ≡ next
    = (let q : Some (bound (ids ++ next ∷ []) id) ≡ Some next
    = sym (slice_get-get_or (ids ++ next ∷ []) (length (ids ++ next ∷ []) - 1) (suc id) (slice_get_within (ids ++ next ∷ []) (length (ids ++ next ∷ []) - 1) next here)) ∙ here in cc) in
    subst (λ ys. bound ys id < last) (sym m) (subst (λ y. y < last) (sym is) (h.below next (length ids - 1) last w at))

-- ---- how many there are

pub needed-place : (nodes : List Node) (id : ℕ) (ids : List ℕ) → AreNeeded nodes id ids → (i k : ℕ) → slice_get ids i ≡ Some k → k + i ≤ id
needed-place nodes id ids h zero k e = (let l = h.within k (zero, e) in omega arith)
needed-place nodes id ids h (suc i) k e =
    let inside = slice_get_within ids (suc i) k e in
    let j = get_or ids i 0 in
    let at : slice_get ids i ≡ Some j = slice_get-get_or ids i 0 (omega arith) in
    let l = needed-place nodes id ids h i j at in
    let f = h.falling i (suc i) j k (omega arith) at e in
    omega arith

pub needed-few : (nodes : List Node) (id : ℕ) (ids : List ℕ) → AreNeeded nodes id ids → length ids ≤ id + 1
needed-few nodes id [] h = omega arith
needed-few nodes id (x ∷ xs) h =
    let ids = x ∷ xs in
    let l = needed-place nodes id ids h (length ids - 1) (get_or ids (length ids - 1) 0) (slice_get-get_or ids (length ids - 1) 0 (omega arith)) in
    omega arith

-- a part of the term at a place stands at a later one
pub needed-later : (nodes : List Node) (id : ℕ) (ids : List ℕ) → AreNeeded nodes id ids → (i k p : ℕ) → slice_get ids i ≡ Some k → p < k → IsAmong ids p
    → (j : ℕ) × (i < j) × (slice_get ids j ≡ Some p)
needed-later nodes id ids h i k p e l a = elim (cases_lt i a.0) [
  | inl less ↦ (a.0, less, a.1)
  | inr more ↦ elim (cases_eq a.0 i) [
    | inl same ↦ absurd (let q : Some p ≡ Some k = sym a.1 ∙ ap (slice_get ids) same ∙ e in let r : p ≡ k = cc in omega arith)
    | inr other ↦ absurd (let f = h.falling a.0 i p k (let o = other in omega arith) a.1 e in omega arith)
  ]
]
