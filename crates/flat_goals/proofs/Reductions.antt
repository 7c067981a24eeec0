-- The loop over the terms of a goal whose applications become inputs.
use Rattle.std.proofs.Common.{◌≡◌, ℕ, ◌+◌, ◌<◌, ◌≤◌, true, false, List, [], ◌∷◌, ◌++◌, length, length-append, map, take, Some, slice_get, refl, ap, sym, ◌∙◌, subst, arith, inl, inr, zero, suc}
use Rattle.std.specs.Prelude.{filter, option_map}
use Rattle.std.specs.List.{AllByRecursion, AllZip}
use Rattle.std.proofs.lemmas.List.{append-nil, map-append, take-map}
use Rattle.std.proofs.lemmas.List.Elements.{All-from_recursion, filter-append, recursion_from_All}
use Rattle.std.proofs.lemmas.Option.{slice_get_within, slice_get-map}
use Rattle.std.proofs.lemmas.Bool.{cases_eq, cond-true, cond-false, eq-eqb, or_cases}
use Rattle.bv_terms.specs.declared.node.Node.{Node}
use Rattle.bv_terms.specs.declared.node.Node.TheVariants.{Constant, Input, Apply, Not, Binary, Slice, Pick}
use Rattle.bv_terms.specs.TermTrees.{Term, input, not_, slice, width, IsTerm}
use Rattle.bv_terms.specs.Arenas.{parts, args_of, made_of, term_at, width_at, node_width, inputs_in, CanFollow, IsArena, IsPut, KeepsTerms}
use Rattle.bv_terms.specs.Rebuilt.{Names, name_in, with_parts}
use Rattle.bv_terms.specs.TermMaps.{IsSet}
use Rattle.bv_terms.specs.Walks.{AreNumbersOf, applications, is_among, is_application, same_term, walk}
use Rattle.bv_terms.proofs.EvalFacts.{fit-of}
use Rattle.bv_terms.proofs.Members.{both, each}
use Rattle.bv_terms.proofs.NodeFacts.{node-width}
use Rattle.bv_terms.proofs.OneNumber.{one-number}
use Rattle.bv_terms.proofs.ReplaceFacts.{fit-with, grown-length, keeps-both, keeps-none, name-new, name-old, node-kept, there-with, width-with}
use Rattle.bv_terms.proofs.SameTerms.{same-only}
use Rattle.bv_terms.specs.Growth.{IsMade}
use Rattle.flat_laws.specs.Flat.{args_in, place_in, reduced, reduced_args}
use Rattle.flat_laws.specs.Rows.{is_of}
use Rattle.flat_laws.proofs.Reduced.{reduced-width}
use Rattle.flat_goals.specs.Reducing.{AreTaken, CanReduce, IsReduced, IsTaken, listed}
use Rattle.flat_goals.specs.declared.applied.Application.{Application}
use Rattle.flat_goals.proofs.WalkOrder.{Fresh, fresh-at, its-place, parts-seen, walk-there}

-- ---- arenas that keep their terms

pub kept-made : (a b : List Node) (t : Term) (id : ℕ) → KeepsTerms a b → IsMade a t id → IsMade b t id
kept-made a b t id k m = record {
  there = (let g = grown-length a b k in let l = m.there in omega arith);
  term = k.terms id m.there ∙ m.term;
}

pub kept-args : (a b : List Node) (ids : List ℕ) → KeepsTerms a b → AllByRecursion (λ i. i < length a) ids → args_of (term_at b) ids ≡ args_of (term_at a) ids
kept-args a b [] k h = refl
kept-args a b (i ∷ is) k h = let d = k.terms i h.0 in let e = kept-args a b is k h.1 in cc

kept-there : (a b : List Node) (ids : List ℕ) → KeepsTerms a b → AllByRecursion (λ i. i < length a) ids → AllByRecursion (λ i. i < length b) ids
kept-there a b ids k h = each (λ i (l : i < length a). let g = grown-length a b k in omega arith) ids h

kept-taken : (a b : List Node) (goal : Term) (first : ℕ) (t : Term) (x : Application) → KeepsTerms a b → IsTaken a goal first t x → IsTaken b goal first t x
kept-taken a b goal first t x k h =
    let inside = recursion_from_All (λ i. i < length a) x.applied.args h.applied.there in
    let made = kept-made a b (reduced (applications goal) first t) x.term k (record { there = h.there; term = h.term }) in
    record {
      applied = record {
        function = h.applied.function;
        there = All-from_recursion (λ i. i < length b) x.applied.args (kept-there a b x.applied.args k inside);
        args = kept-args a b x.applied.args k inside ∙ h.applied.args;
        result = h.applied.result;
        input = (h.applied.input.0, node-kept a b h.applied.input.0 k (slice_get_within a h.applied.input.0 _ h.applied.input.1) ∙ h.applied.input.1);
      };
      there = made.there;
      term = made.term;
    }

pub kept-all : (a b : List Node) (goal : Term) (first : ℕ) (ts : List Term) (xs : List Application) → KeepsTerms a b → AllZip (IsTaken a goal first) ts xs → AllZip (IsTaken b goal first) ts xs
kept-all a b goal first [] [] k h = tt
kept-all a b goal first [] (x ∷ xs) k h = absurd h
kept-all a b goal first (t ∷ ts) [] k h = absurd h
kept-all a b goal first (t ∷ ts) (x ∷ xs) k h = (kept-taken a b goal first t x k h.0, kept-all a b goal first ts xs k h.1)

pub zip-push : {A B : Type 0} (R : A → B → Type 0) (xs : List A) (ys : List B) (x : A) (y : B) → AllZip R xs ys → R x y → AllZip R (xs ++ x ∷ []) (ys ++ y ∷ [])
zip-push R [] [] x y h p = (p, tt)
zip-push R [] (b ∷ ys) x y h p = absurd h
zip-push R (a ∷ xs) [] x y h p = absurd h
zip-push R (a ∷ xs) (b ∷ ys) x y h p = (h.0, zip-push R xs ys x y h.1 p)

-- ---- a node over reduced parts

args-reduced : (A : List Term) (first : ℕ) (f g : ℕ → Term) (name : ℕ → ℕ) (xs : List ℕ) → AllByRecursion (λ p. g (name p) ≡ reduced A first (f p)) xs
    → args_of g (map name xs) ≡ reduced_args A first (args_of f xs)
args-reduced A first f g name [] e = refl
args-reduced A first f g name (a ∷ xs) e = let d = args-reduced A first f g name xs e.1 in let d' = e.0 in cc

-- ---- the terms of an order

-- where a term stands among some
index-of : (f : ℕ → Term) (xs : List ℕ) (n : ℕ) (t : Term) → is_among (map f (take n xs)) t ≡ true → (i : ℕ) × (k : ℕ) × (i < n) × (slice_get xs i ≡ Some k) × (f k ≡ t)
index-of f xs zero t h = absurd cc
index-of f [] (suc n) t h = absurd cc
index-of f (x ∷ xs) (suc n) t h = elim (or_cases (same_term (f x) t) (is_among (map f (take n xs)) t) h) [
  | inl s ↦ (zero, x, omega arith, refl, same-only (f x) t s)
  | inr r ↦ let q = index-of f xs n t r in (suc q.0, q.1, (let l = q.2 in omega arith), q.3, q.4)
]

member-below : (n : ℕ) (xs : List ℕ) (i k : ℕ) → AllByRecursion (λ j. j < n) xs → slice_get xs i ≡ Some k → k < n
member-below n [] i k a e = absurd cc
member-below n (x ∷ xs) zero k a e = let s : x ≡ k = cc in subst (λ j. j < n) s a.0
member-below n (x ∷ xs) (suc i) k a e = member-below n xs i k a.1 e

take-next : (xs : List ℕ) (n k : ℕ) → slice_get xs n ≡ Some k → take (suc n) xs ≡ take n xs ++ k ∷ []
take-next [] n k e = absurd cc
take-next (x ∷ xs) zero k e = let s : x ≡ k = cc in ap (λ y. y ∷ []) s
take-next (x ∷ xs) (suc n) k e = ap (λ ys. x ∷ ys) (take-next xs n k e)

take-beyond : (n : ℕ) (xs : List ℕ) → length xs ≤ n → take n xs ≡ xs
take-beyond zero [] l = refl
take-beyond zero (x ∷ xs) l = absurd (omega (arith, l))
take-beyond (suc n) [] l = refl
take-beyond (suc n) (x ∷ xs) l = ap (λ ys. x ∷ ys) (take-beyond n xs (omega (arith, l)))

-- a term is one of those of a walk over it
last-index : (t : Term) (xs : List ℕ) (f : ℕ → Term) → map f xs ≡ walk t [] → (i : ℕ) × (k : ℕ) × (slice_get xs i ≡ Some k) × (f k ≡ t)
last-index t xs f e =
    let q = index-of f xs (length xs) t (ap (λ ys. is_among (map f ys) t) (take-beyond (length xs) xs (omega arith)) ∙ ap (λ ts. is_among ts t) e ∙ walk-there t []) in
    (q.0, q.1, q.3, q.4)

module _ (old : List Node) (goal : ℕ) (order : List ℕ) where
  abbrev pub whole : Term
  whole = term_at old goal

  abbrev pub all_applied : List Term
  all_applied = applications whole

  abbrev pub first : ℕ
  first = inputs_in old

  -- the applications among the first terms
  abbrev pub applied_to : ℕ → List Term
  applied_to n = filter is_application (map (term_at old) (take n order))

  -- the term of a number became the term of another one
  abbrev pub Became : List Node → (k id : ℕ) → Type 0
  Became now k id = IsMade now (reduced all_applied first (term_at old k)) id

  pub record Reducing (now : List Node) (at : ℕ) (ids : Names) (taken : List Application) : Type 0 where
    pub arena : IsArena old
    pub there : goal < length old
    pub order_ : AreNumbersOf old (walk whole []) order
    pub kept : KeepsTerms old now
    pub inputs : inputs_in now ≡ first + length (applied_to at)
    pub done : (i k : ℕ) → i < at → slice_get order i ≡ Some k → Became now k (name_in ids k)
    pub listed_ : AllZip (IsTaken now whole first) (applied_to at) taken

  pub reduce-first : (at : ℕ) (ids : Names) (taken : List Application) → IsArena old → goal < length old → AreNumbersOf old (walk whole []) order → at ≡ 0 → taken ≡ []
      → Reducing old at ids taken
  reduce-first at ids taken a l n z none = record {
    arena = a;
    there = l;
    order_ = n;
    kept = keeps-none old;
    inputs = (let none_yet : length (applied_to at) ≡ 0 = ap (λ m. length (applied_to m)) z in omega arith);
    done = λ i k less e. absurd (omega arith);
    listed_ = subst (λ m. AllZip (IsTaken old whole first) (applied_to m) taken) (sym z) (subst (AllZip (IsTaken old whole first) []) (sym none) tt);
  }

  module _ (now : List Node) (at : ℕ) (ids : Names) (taken : List Application) (h : Reducing now at ids taken) (k : ℕ) (its : slice_get order at ≡ Some k) where
    its-there : k < length old
    its-there = member-below (length old) order at k (recursion_from_All (λ j. j < length old) order h.order_.there) its

    pub own-there : k < length now
    own-there = (let g = grown-length old now h.kept in let l = its-there in omega arith)

    in-walk : slice_get (walk whole []) at ≡ Some (term_at old k)
    in-walk = ap (λ ts. slice_get ts at) (sym h.order_.terms) ∙ slice_get-map (term_at old) order at ∙ ap (option_map (term_at old)) its

    seen-is : take at (walk whole []) ≡ map (term_at old) (take at order)
    seen-is = ap (take at) (sym h.order_.terms) ∙ take-map (term_at old) at order

    applied-more : applied_to (suc at) ≡ applied_to at ++ filter is_application (term_at old k ∷ [])
    applied-more =
        ap (λ xs. filter is_application (map (term_at old) xs)) (take-next order at k its)
        ∙ ap (filter is_application) (map-append (term_at old) (take at order) (k ∷ []))
        ∙ filter-append is_application (map (term_at old) (take at order)) (term_at old k ∷ [])

    -- a term that is no application
    applied-same : is_application (term_at old k) ≡ false → applied_to (suc at) ≡ applied_to at
    applied-same e =
        applied-more ∙ ap (λ ts. applied_to at ++ ts) (cond-false (is_application (term_at old k)) (term_at old k ∷ []) [] e) ∙ append-nil (applied_to at)

    -- one that is
    applied-one : is_application (term_at old k) ≡ true → applied_to (suc at) ≡ applied_to at ++ term_at old k ∷ []
    applied-one e = applied-more ∙ ap (λ ts. applied_to at ++ ts) (cond-true (is_application (term_at old k)) (term_at old k ∷ []) [] e)

    next-place : is_application (term_at old k) ≡ true → place_in all_applied (term_at old k) ≡ length (applied_to at)
    next-place e = its-place whole at (term_at old k) in-walk e ∙ ap (λ ts. length (filter is_application ts)) seen-is

    module _ (node : Node) (is : slice_get old k ≡ Some node) where
      abbrev name : ℕ → ℕ
      name = name_in ids

      made : term_at old k ≡ made_of (term_at old) node
      made = h.arena.made k node is

      parts-done : AllByRecursion (λ p. Became now p (name p)) (parts node)
      parts-done =
          both (λ p. p < k) (λ p. is_among (map (term_at old) (take at order)) (term_at old p) ≡ true) (λ p. Became now p (name p))
          (λ p l s. let q = index-of (term_at old) order at (term_at old p) s in
          let inside = member-below (length old) order q.0 q.1 (recursion_from_All (λ j. j < length old) order h.order_.there) q.3 in
          let same : q.1 ≡ p = one-number old h.arena q.1 p inside (let m = its-there in omega arith) q.4 in
          subst (λ j. Became now j (name j)) same (h.done q.0 q.1 q.2 q.3))
          (parts node) (recursion_from_All (λ p. p < k) (parts node) (h.arena.below k node is))
          (parts-seen (map (term_at old) (take at order)) (term_at old) node
          (subst (λ s. Fresh s (made_of (term_at old) node)) seen-is (subst (Fresh (take at (walk whole []))) made (fresh-at whole at (term_at old k) in-walk))))

      parts-there : AllByRecursion (λ p. name p < length now) (parts node)
      parts-there = each (λ p (d : Became now p (name p)). d.there) (parts node) parts-done

      parts-are : AllByRecursion (λ p. term_at now (name p) ≡ reduced all_applied first (term_at old p)) (parts node)
      parts-are = each (λ p (d : Became now p (name p)). d.term) (parts node) parts-done

      parts-wide : AllByRecursion (λ p. width_at now (name p) ≡ width_at old p) (parts node)
      parts-wide = each (λ p (d : Became now p (name p)). ap width d.term ∙ reduced-width all_applied first (term_at old p)) (parts node) parts-done

      is-term : IsTerm (made_of (term_at old) node)
      is-term = subst IsTerm made (h.arena.terms k its-there)

      follows : CanFollow now (with_parts name node)
      follows = record {
        there = All-from_recursion (λ q. q < length now) (parts (with_parts name node)) (there-with (length now) name node parts-there);
        fit = fit-with (width_at now) (width_at old) name node parts-wide (fit-of (term_at old) node is-term);
      }

      wide : width_at now k ≡ node_width (width_at now) (with_parts name node)
      wide =
          ap width (h.kept.terms k its-there) ∙ ap width made ∙ node-width (term_at old) node ∙ sym (width-with (width_at now) (width_at old) name node parts-wide)

    its-can : (node : Node) → slice_get old k ≡ Some node → CanReduce now (with_parts (name_in ids) node) (width_at now k)
    its-can (Constant b) is = (follows (Constant b) is, wide (Constant b) is)
    its-can (Input i w) is = tt
    its-can (Apply f args w) is = (is-term (Apply f args w) is).1
    its-can (Not a) is = (follows (Not a) is, wide (Not a) is)
    its-can (Binary op a b) is = (follows (Binary op a b) is, wide (Binary op a b) is)
    its-can (Slice a high low) is = (follows (Slice a high low) is, wide (Slice a high low) is)
    its-can (Pick c a b) is = (follows (Pick c a b) is, wide (Pick c a b) is)

    module _ (new : List Node) (id : ℕ) (keeps : KeepsTerms now new) where
      put-made : (node : Node) → slice_get old k ≡ Some node → made_of (term_at now) (with_parts (name_in ids) node) ≡ reduced all_applied first (made_of (term_at old) node)
          → IsPut now new (with_parts (name_in ids) node) id → Became new k id
      put-made node is e put = record { there = put.there; term = put.term ∙ e ∙ ap (reduced all_applied first) (sym (made node is)) }

      its-made : (node : Node) → slice_get old k ≡ Some node → IsReduced now new k (with_parts (name_in ids) node) id → Became new k id
      its-made (Constant b) is r = put-made (Constant b) is refl r.0
      its-made (Input i w) is r =
          let term : term_at now k ≡ reduced all_applied first (term_at old k)
          = h.kept.terms k its-there ∙ made (Input i w) is ∙ ap (reduced all_applied first) (sym (made (Input i w) is)) in
          kept-made now new (reduced all_applied first (term_at old k)) id keeps
          (subst (λ j. IsMade now (reduced all_applied first (term_at old k)) j) (sym r.0) (record { there = own-there; term = term }))
      its-made (Apply f args w) is r =
          let t = made (Apply f args w) is in
          let e : inputs_in now ≡ first + place_in all_applied (term_at old k) = h.inputs ∙ ap (λ n. first + n) (sym (next-place (ap is_application t))) in
          record {
            there = r.0.there;
            term = r.0.term ∙ ap (λ n. input n w) (e ∙ ap (λ u. first + place_in all_applied u) t) ∙ ap (reduced all_applied first) (sym t);
          }
      its-made (Not a) is r = put-made (Not a) is (ap not_ (parts-are (Not a) is).0) r.0
      its-made (Binary op a b) is r =
          put-made (Binary op a b) is (let p = parts-are (Binary op a b) is in let d = p.0 in let d' = p.1.0 in cc) r.0
      its-made (Slice a high low) is r = put-made (Slice a high low) is (ap (λ x. slice x high low) (parts-are (Slice a high low) is).0) r.0
      its-made (Pick c a b) is r =
          put-made (Pick c a b) is (let p = parts-are (Pick c a b) is in let d = p.0 in let d' = p.1.0 in let d'' = p.1.1.0 in cc) r.0

      -- what is listed then, and how many inputs there are
      abbrev Listed : List Application → Type 0
      Listed more = AllZip (IsTaken new whole first) (applied_to (suc at)) (taken ++ more) × (inputs_in new ≡ first + length (applied_to (suc at)))

      plain-listed : is_application (term_at old k) ≡ false → inputs_in new ≡ inputs_in now → Listed []
      plain-listed e n =
          subst (λ ts. AllZip (IsTaken new whole first) ts (taken ++ []) × (inputs_in new ≡ first + length ts)) (sym (applied-same e))
          (subst (AllZip (IsTaken new whole first) (applied_to at)) (sym (append-nil taken)) (kept-all now new whole first (applied_to at) taken keeps h.listed_), n ∙ h.inputs)

      one-taken : (f w : ℕ) (args : List ℕ) → slice_get old k ≡ Some (Apply f args w) → IsReduced now new k (Apply f (map (name_in ids) args) w) id
          → IsTaken new whole first (term_at old k) (record { applied = record { function = f; args = map (name_in ids) args; result = inputs_in now }; term = id })
      one-taken f w args is r =
          let t = made (Apply f args w) is in
          let others = map (name_in ids) args in
          let inside : AllByRecursion (λ q. q < length now) others = there-with (length now) (name_in ids) (Apply f args w) (parts-there (Apply f args w) is) in
          let became = its-made (Apply f args w) is r in
          record {
            applied = record {
              function = ap (is_of f) t ∙ eq-eqb f f refl;
              there = All-from_recursion (λ q. q < length new) others (kept-there now new others keeps inside);
              args =
                  kept-args now new others keeps inside ∙ args-reduced all_applied first (term_at old) (term_at now) (name_in ids) args (parts-are (Apply f args w) is)
                  ∙ ap (λ u. reduced_args all_applied first (args_in u)) (sym t);
              result = h.inputs ∙ ap (λ n. first + n) (sym (next-place (ap is_application t)));
              input = (id, r.0.node_ ∙ ap (λ v. Some (Input (inputs_in now) v)) (sym (ap width t)));
            };
            there = became.there;
            term = became.term;
          }

      its-listed : (node : Node) → slice_get old k ≡ Some node → IsReduced now new k (with_parts (name_in ids) node) id → Listed (listed (inputs_in now) (with_parts (name_in ids) node) id)
      its-listed (Constant b) is r = plain-listed (ap is_application (made (Constant b) is)) r.1
      its-listed (Input i w) is r = plain-listed (ap is_application (made (Input i w) is)) (ap inputs_in r.1)
      its-listed (Apply f args w) is r =
          let e : is_application (term_at old k) ≡ true = ap is_application (made (Apply f args w) is) in
          let one : Application = record { applied = record { function = f; args = map (name_in ids) args; result = inputs_in now }; term = id } in
          subst (λ ts. AllZip (IsTaken new whole first) ts (taken ++ one ∷ []) × (inputs_in new ≡ first + length ts)) (sym (applied-one e)) (
            zip-push (IsTaken new whole first) (applied_to at) taken (term_at old k) one
                (kept-all now new whole first (applied_to at) taken keeps h.listed_) (one-taken f w args is r),
            (let l = length-append (applied_to at) (term_at old k ∷ []) in let i = h.inputs in let m = r.1 in omega arith),
          )
      its-listed (Not a) is r = plain-listed (ap is_application (made (Not a) is)) r.1
      its-listed (Binary op a b) is r = plain-listed (ap is_application (made (Binary op a b) is)) r.1
      its-listed (Slice a high low) is r = plain-listed (ap is_application (made (Slice a high low) is)) r.1
      its-listed (Pick c a b) is r = plain-listed (ap is_application (made (Pick c a b) is)) r.1

      its-done : (more : Names) → Became new k id → IsSet ids more k id → (i j : ℕ) → i < suc at → slice_get order i ≡ Some j → Became new j (name_in more j)
      its-done more became up i j l e = elim (cases_eq k j) [
        | inl s ↦ subst (λ x. Became new x (name_in more x)) s (subst (Became new k) (sym (name-new ids more k id up)) became)
        | inr o ↦
            let before : i < at = elim (cases_eq i at) [
              | inl s ↦ absurd (o (let x : Some k ≡ Some j = sym its ∙ ap (slice_get order) (sym s) ∙ e in cc))
              | inr n ↦ omega arith
            ] in
            subst (Became new j) (sym (name-old ids more k id j up o)) (kept-made now new (reduced all_applied first (term_at old j)) (name_in ids j) keeps (h.done i j before e))
      ]

      its-step : (more : Names) (node : Node) → slice_get old k ≡ Some node → IsReduced now new k (with_parts (name_in ids) node) id → IsSet ids more k id
          → Reducing new (suc at) more (taken ++ listed (inputs_in now) (with_parts (name_in ids) node) id)
      its-step more node is r up =
          let l = its-listed node is r in
          record {
            arena = h.arena;
            there = h.there;
            order_ = h.order_;
            kept = keeps-both old now new h.kept keeps;
            inputs = l.1;
            done = its-done more (its-made node is r) up;
            listed_ = l.0;
          }

    -- the node is that of the arena at first
    its-node : (node : Node) → slice_get now k ≡ Some node → slice_get old k ≡ Some node
    its-node node e = sym (node-kept old now k h.kept its-there) ∙ e

    pub own-can : (w : ℕ) (node other : Node) → slice_get now k ≡ Some node → other ≡ with_parts (name_in ids) node → w ≡ width_at now k → CanReduce now other w
    own-can w node other e o we =
        subst (CanReduce now other) (sym we) (subst (λ x. CanReduce now x (width_at now k)) (sym o) (its-can node (its-node node e)))

    pub own-step : (new : List Node) (id : ℕ) (more : Names) (node other : Node) (more_taken : List Application) → slice_get now k ≡ Some node → other ≡ with_parts (name_in ids) node
        → KeepsTerms now new → IsReduced now new k other id → more_taken ≡ taken ++ listed (inputs_in now) other id → IsSet ids more k id → Reducing new (at + 1) more more_taken
    own-step new id more node other more_taken e o keeps r l up =
        let next : suc at ≡ at + 1 = omega arith in
        subst (λ n. Reducing new n more more_taken) next
        (subst (Reducing new (suc at) more) (sym (l ∙ ap (λ x. taken ++ listed (inputs_in now) x id) o))
        (its-step new id keeps more node (its-node node e) (subst (λ x. IsReduced now new k x id) o r) up))

  -- at the end
  module _ (now : List Node) (at : ℕ) (ids : Names) (taken : List Application) (h : Reducing now at ids taken) (end : length order ≤ at) where
    all-seen : applied_to at ≡ all_applied
    all-seen = ap (λ xs. filter is_application (map (term_at old) xs)) (take-beyond at order end) ∙ ap (filter is_application) h.order_.terms

    pub goal-made : Became now goal (name_in ids goal)
    goal-made =
        let q = last-index whole order (term_at old) h.order_.terms in
        let inside = member-below (length old) order q.0 q.1 (recursion_from_All (λ j. j < length old) order h.order_.there) q.2 in
        let same : q.1 ≡ goal = one-number old h.arena q.1 goal inside h.there q.3 in
        subst (λ j. Became now j (name_in ids j)) same (h.done q.0 q.1 (let l = slice_get_within order q.0 q.1 q.2 in let m = end in omega arith) q.2)

    pub all-taken : AreTaken now whole first taken
    all-taken = subst (λ ts. AllZip (IsTaken now whole first) ts taken) all-seen h.listed_

    pub all-inputs : inputs_in now ≡ first + length all_applied
    all-inputs = h.inputs ∙ ap (λ ts. first + length ts) all-seen
