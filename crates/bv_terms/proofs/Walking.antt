-- A walk over an arena, step by step.
use Rattle.std.proofs.Common.{◌≡◌, ℕ, ◌+◌, ◌<◌, ◌≤◌, ◌==◌, ◌||◌, Bool, true, false, cond, List, [], ◌∷◌, ◌++◌, length, map, take, drop, Option, Some, None, option_map, unwrap_or, slice_get, get_or, refl, ap, sym, ◌∙◌, subst, arith, zero, suc, inl, inr}
use Rattle.std.specs.Prelude.{reverse}
use Rattle.std.specs.List.{All, AllByRecursion, list_any}
use Rattle.std.proofs.Math.Seq.{drop-cons}
use Rattle.std.proofs.lemmas.List.{append-nil, drop_all, map-append, reverse-append, take_all, take_more}
use Rattle.std.proofs.lemmas.List.Elements.{All-nil, All-append}
use Rattle.std.proofs.lemmas.List.Folds.{list_any-append}
use Rattle.std.proofs.lemmas.Bool.{cases_Bool, cases_lt, cond-true, cond-false, eqb-true, eq-eqb, false≢true}
use Rattle.std.proofs.lemmas.Option.{slice_get_within, slice_get-get_or}
use Rattle.bv_terms.specs.declared.node.Node.{Node}
use Rattle.bv_terms.specs.declared.node.Node.TheVariants.{Constant, Input, Apply, Not, Binary, Slice, Pick}
use Rattle.bv_terms.specs.TermTrees.{Term, Args, constant, input, apply, not_, binary, slice, pick, no_args, arg}
use Rattle.bv_terms.specs.Arenas.{IsArena, parts, args_of, made_of, term_at}
use Rattle.bv_terms.specs.Walks.{AreNumbersOf, is_among, leave, same_term, walk, walk_args}
use Rattle.bv_terms.proofs.Members.{each}
use Rattle.bv_terms.proofs.OneNumber.{one-number}
use Rattle.bv_terms.proofs.SameTerms.{same-only}
use Rattle.bv_terms.specs.declared.walk.Entered.{Entered}
use Rattle.bv_terms.specs.declared.walk.Walk.{Walk}
use Rattle.bv_terms.specs.Seen.{Seen}
use Rattle.bv_terms.specs.Steps.{IsGoneOn, IsStep, IsStepTo, entered, has, parts_at}
use Rattle.bv_terms.specs.declared.term_map.TermMap.{TermMap}
use Rattle.bv_terms.proofs.Sights.{leave-among, leave-grown, leave-seen, seen-grown, walk-grown, walk-seen, walk-sees}

-- ---- the walk over a term's parts

abbrev pub walk_all : List Term → List Term → List Term
walk_all [] seen = seen
walk_all (t ∷ ts) seen = walk_all ts (walk t seen)

args-walked : (f : ℕ → Term) (args : List ℕ) (seen : List Term) → walk_args (args_of f args) seen ≡ walk_all (map f args) seen
args-walked f [] seen = refl
args-walked f (a ∷ args) seen = args-walked f args (walk (f a) seen)

made-walked : (f : ℕ → Term) (node : Node) (seen : List Term) → walk (made_of f node) seen ≡ leave (made_of f node) (walk_all (map f (parts node)) seen)
made-walked f (Constant b) seen = refl
made-walked f (Input i w) seen = refl
made-walked f (Apply g args w) seen = ap (leave (apply g (args_of f args) w)) (args-walked f args seen)
made-walked f (Not a) seen = refl
made-walked f (Binary op a b) seen = refl
made-walked f (Slice a high low) seen = refl
made-walked f (Pick c a b) seen = refl

all-walked : (ts seen : List Term) → AllByRecursion (Seen seen) ts → walk_all ts seen ≡ seen
all-walked [] seen h = refl
all-walked (t ∷ ts) seen h = ap (walk_all ts) (walk-seen t seen h.0) ∙ all-walked ts seen h.1

each-of : (P : Term → Type 0) (f : ℕ → Term) (ps : List ℕ) → AllByRecursion (λ p. P (f p)) ps → AllByRecursion P (map f ps)
each-of P f [] h = tt
each-of P f (p ∷ ps) h = (h.0, each-of P f ps h.1)

every-append : (P : ℕ → Type 0) (xs ys : List ℕ) → AllByRecursion P xs → AllByRecursion P ys → AllByRecursion P (xs ++ ys)
every-append P [] ys h k = k
every-append P (x ∷ xs) ys h k = (h.0, every-append P xs ys h.1 k)

-- ---- parts by their places

place-is : (xs : List ℕ) (i p : ℕ) → slice_get xs i ≡ Some p → get_or xs i 0 ≡ p
place-is xs i p e = let q : Some (get_or xs i 0) ≡ Some p = sym (slice_get-get_or xs i 0 (slice_get_within xs i p e)) ∙ e in cc

drop-place : (xs : List ℕ) (i p : ℕ) → slice_get xs i ≡ Some p → drop i xs ≡ p ∷ drop (i + 1) xs
drop-place xs i p e = drop-cons xs i 0 (slice_get_within xs i p e) ∙ ap (λ x. x ∷ drop (suc i) xs) (place-is xs i p e) ∙ ap (λ n. p ∷ drop n xs) (let q : suc i ≡ i + 1 = omega arith in q)

take-place : (xs : List ℕ) (i p : ℕ) → slice_get xs i ≡ Some p → take (i + 1) xs ≡ take i xs ++ p ∷ []
take-place xs i p e = take_more xs i 0 (slice_get_within xs i p e) ∙ ap (λ x. take i xs ++ x ∷ []) (place-is xs i p e)

none-after : (xs : List ℕ) (i : ℕ) → slice_get xs i ≡ None → length xs ≤ i
none-after xs i e = elim (cases_lt i (length xs)) [
  | inl l ↦ absurd (let q : Some (get_or xs i 0) ≡ None = sym (slice_get-get_or xs i 0 l) ∙ e in cc)
  | inr m ↦ m
]

-- ---- how much is left

abbrev mutual
  size : Term → ℕ
  size (constant w n) = 1
  size (input i w) = 1
  size (apply f args w) = 1 + args_size args
  size (not_ a) = 1 + (size a + 1)
  size (binary op a b) = 1 + (size a + 1 + (size b + 1))
  size (slice a high low) = 1 + (size a + 1)
  size (pick c a b) = 1 + (size c + 1 + (size a + 1 + (size b + 1)))

  args_size : Args → ℕ
  args_size no_args = 0
  args_size (arg t ts) = size t + 1 + args_size ts

abbrev sizes : List Term → ℕ
sizes [] = 0
sizes (t ∷ ts) = size t + 1 + sizes ts

args-sized : (f : ℕ → Term) (args : List ℕ) → args_size (args_of f args) ≡ sizes (map f args)
args-sized f [] = refl
args-sized f (a ∷ args) = ap (λ n. size (f a) + 1 + n) (args-sized f args)

made-sized : (f : ℕ → Term) (node : Node) → size (made_of f node) ≡ 1 + sizes (map f (parts node))
made-sized f (Constant b) = refl
made-sized f (Input i w) = refl
made-sized f (Apply g args w) = ap (λ n. 1 + n) (args-sized f args)
made-sized f (Not a) = omega arith
made-sized f (Binary op a b) = omega arith
made-sized f (Slice a high low) = omega arith
made-sized f (Pick c a b) = omega arith

module _ (nodes : List Node) where
  abbrev pub terms_of : List ℕ → List Term
  terms_of ids = map (term_at nodes) ids

  -- the parts that were not gone to
  abbrev rest_of : Entered → List Term
  rest_of e = terms_of (drop e.next (parts_at nodes e.term))

  abbrev pub entered_size : List Entered → ℕ
  entered_size [] = 0
  entered_size (e ∷ es) = 1 + sizes (rest_of e) + entered_size es

  size-append : (xs ys : List Entered) → entered_size (xs ++ ys) ≡ entered_size xs + entered_size ys
  size-append [] ys = omega arith
  size-append (x ∷ xs) ys = (let h = size-append xs ys in omega arith)

  -- ---- what a term that was entered makes of the terms that were seen

  abbrev pub done : Entered → List Term → List Term
  done e seen = leave (term_at nodes e.term) (walk_all (rest_of e) seen)

  -- its parts before the next one were seen
  pub record IsReady (seen : List Term) (e : Entered) : Type 0 where
    pub there : e.term < length nodes
    pub parts_ : AllByRecursion (λ p. Seen seen (term_at nodes p)) (take e.next (parts_at nodes e.term))

  -- those that were entered can be left in turn, the last first, and then the walk is at its end
  abbrev pub Pending : (last seen : List Term) → List Entered → Type 0
  Pending last seen [] = seen ≡ last
  Pending last seen (e ∷ es) = IsReady seen e × Pending last (done e seen) es

  pub record Walking (last : List Term) (order : List ℕ) (left : TermMap Bool) (stack : List Entered) : Type 0 where
    pub arena : IsArena nodes
    pub there : All (λ k. k < length nodes) order
    pub known : (k : ℕ) → k < length nodes → has left k ≡ is_among (terms_of order) (term_at nodes k)
    pub closed : (k : ℕ) → k < length nodes → is_among (terms_of order) (term_at nodes k) ≡ true → Seen (terms_of order) (term_at nodes k)
    pub pending : Pending last (terms_of order) stack

  -- ---- the node of a term

  node-of : (k : ℕ) → k < length nodes → (node : Node) × (slice_get nodes k ≡ Some node) × (parts_at nodes k ≡ parts node)
  node-of k l =
      let e = slice_get-get_or nodes k (Input 0 0) l in
      (get_or nodes k (Input 0 0), e, ap (λ (o : Option Node). unwrap_or (option_map parts o) []) e)

  module _ (arena : IsArena nodes) where
    part-below : (k i p : ℕ) → k < length nodes → slice_get (parts_at nodes k) i ≡ Some p → p < length nodes
    part-below k i p l e =
        let n = node-of k l in
        let at : slice_get (parts n.0) i ≡ Some p = ap (λ ps. slice_get ps i) (sym n.2) ∙ e in
        let b = arena.below k n.0 n.1 i 0 (slice_get_within (parts n.0) i p at) in
        let s = place-is (parts n.0) i p at in
        omega arith

    term-walked : (k : ℕ) → k < length nodes → (seen : List Term) → walk (term_at nodes k) seen ≡ done (entered k) seen
    term-walked k l seen =
        let n = node-of k l in
        let made = arena.made k n.0 n.1 in
        ap (λ t. walk t seen) made ∙ made-walked (term_at nodes) n.0 seen ∙ ap (λ t. leave t (walk_all (terms_of (parts n.0)) seen)) (sym made)
        ∙ ap (λ ps. leave (term_at nodes k) (walk_all (terms_of ps) seen)) (sym n.2)

    term-sized : (k : ℕ) → k < length nodes → size (term_at nodes k) ≡ 1 + sizes (rest_of (entered k))
    term-sized k l =
        let n = node-of k l in
        ap size (arena.made k n.0 n.1) ∙ made-sized (term_at nodes) n.0 ∙ ap (λ ps. 1 + sizes (terms_of ps)) (sym n.2)

  -- ---- a term is left

  module _ (last : List Term) (order : List ℕ) (left : TermMap Bool) (at : Entered) (stack : List Entered) (w : Walking last order left (at ∷ stack)) where
    abbrev t : Term
    t = term_at nodes at.term

    abbrev ts : List Term
    ts = terms_of order

    here : at.term < length nodes
    here = w.pending.0.there

    -- the numbers after it is left
    abbrev after : List ℕ
    after = cond (has left at.term) order (order ++ at.term ∷ [])

    after-is : terms_of after ≡ leave t ts
    after-is = elim (cases_Bool (has left at.term)) [
      | inl b ↦ ap terms_of (cond-true (has left at.term) order (order ++ at.term ∷ []) b) ∙ sym (leave-seen t ts (sym (w.known at.term here) ∙ b))
      | inr b ↦
          ap terms_of (cond-false (has left at.term) order (order ++ at.term ∷ []) b) ∙ map-append (term_at nodes) order (at.term ∷ [])
          ∙ sym (cond-false (is_among ts t) ts (ts ++ t ∷ []) (sym (w.known at.term here) ∙ b))
    ]

    only : (i d : ℕ) → i < 1 → at.term ≡ get_or (at.term ∷ []) i d
    only zero d l = refl
    only (suc i) d l = absurd (omega arith)

    after-there : All (λ k. k < length nodes) after
    after-there = elim (cases_Bool (has left at.term)) [
      | inl b ↦ subst (All (λ k. k < length nodes)) (sym (cond-true (has left at.term) order (order ++ at.term ∷ []) b)) w.there
      | inr b ↦ subst (All (λ k. k < length nodes)) (sym (cond-false (has left at.term) order (order ++ at.term ∷ []) b))
          (All-append (λ k. k < length nodes) order (at.term ∷ []) w.there (λ i d l. subst (λ x. x < length nodes) (only i d l) here))
    ]

    -- another term is there if and only if it was before
    other-among : (k : ℕ) → k < length nodes → (at.term == k) ≡ false → is_among (leave t ts) (term_at nodes k) ≡ is_among ts (term_at nodes k)
    other-among k l e = elim (cases_Bool (is_among ts t)) [
      | inl b ↦ ap (λ s. is_among s (term_at nodes k)) (leave-seen t ts b)
      | inr b ↦
          ap (λ s. is_among s (term_at nodes k)) (cond-false (is_among ts t) ts (ts ++ t ∷ []) b) ∙ list_any-append (λ (u : Term). same_term u (term_at nodes k)) ts (t ∷ [])
          ∙ ap (λ c. is_among ts (term_at nodes k) || (c || false)) apart ∙ or-false (is_among ts (term_at nodes k))
    ]
      where
        apart : same_term t (term_at nodes k) ≡ false
        apart = elim (cases_Bool (same_term t (term_at nodes k))) [
          | inl s ↦ absurd (false≢true (sym e ∙ eq-eqb at.term k (one-number nodes w.arena at.term k here l (same-only t (term_at nodes k) s))))
          | inr s ↦ s
        ]

        or-false : (b : Bool) → (b || (false || false)) ≡ b
        or-false true = refl
        or-false false = refl

    leave-known : (new : TermMap Bool) → ((k : ℕ) → has new k ≡ cond (at.term == k) true (has left k)) → (k : ℕ) → k < length nodes → has new k ≡ is_among (leave t ts) (term_at nodes k)
    leave-known new up k l = up k ∙ (elim (cases_Bool (at.term == k)) [
      | inl e ↦ cond-true (at.term == k) true (has left k) e ∙ sym (ap (λ x. is_among (leave t ts) (term_at nodes x)) (sym (eqb-true at.term k e)) ∙ leave-among t ts)
      | inr e ↦ cond-false (at.term == k) true (has left k) e ∙ w.known k l ∙ sym (other-among k l e)
    ])

    module _ (ends : slice_get (parts_at nodes at.term) at.next ≡ None) where
      nothing-left : done at ts ≡ leave t ts
      nothing-left = ap (λ ps. leave t (walk_all (terms_of ps) ts)) (drop_all at.next (parts_at nodes at.term) (none-after (parts_at nodes at.term) at.next ends))

      itself-seen : Seen (leave t ts) t
      itself-seen =
          let all : AllByRecursion (λ p. Seen ts (term_at nodes p)) (parts_at nodes at.term)
          = subst (AllByRecursion (λ p. Seen ts (term_at nodes p))) (take_all at.next (parts_at nodes at.term) (none-after (parts_at nodes at.term) at.next ends)) w.pending.0.parts_ in
          let is : walk t ts ≡ leave t ts
          = term-walked w.arena at.term here ts ∙ ap (leave t) (all-walked (terms_of (parts_at nodes at.term)) ts (each-of (Seen ts) (term_at nodes) (parts_at nodes at.term) all)) in
          subst (λ s. Seen s t) is (walk-sees t ts)

      leave-closed : (k : ℕ) → k < length nodes → is_among (leave t ts) (term_at nodes k) ≡ true → Seen (leave t ts) (term_at nodes k)
      leave-closed k l h = elim (cases_Bool (at.term == k)) [
        | inl e ↦ subst (λ x. Seen (leave t ts) (term_at nodes x)) (eqb-true at.term k e) itself-seen
        | inr e ↦ seen-grown ts (leave t ts) (term_at nodes k) (leave-grown t ts) (w.closed k l (sym (other-among k l e) ∙ h))
      ]

      pub left-walks : (new : TermMap Bool) → ((k : ℕ) → has new k ≡ cond (at.term == k) true (has left k)) → Walking last after new stack
      left-walks new up = record {
        arena = w.arena;
        there = after-there;
        known = λ k l. leave-known new up k l ∙ ap (λ s. is_among s (term_at nodes k)) (sym after-is);
        closed = λ k l h. subst (λ s. Seen s (term_at nodes k)) (sym after-is) (leave-closed k l (ap (λ s. is_among s (term_at nodes k)) (sym after-is) ∙ h));
        pending = subst (λ s. Pending last s stack) (nothing-left ∙ sym after-is) w.pending.1;
      }

    -- ---- the walk goes to a part

    module _ (part : ℕ) (goes : slice_get (parts_at nodes at.term) at.next ≡ Some part) where
      abbrev rest : Entered
      rest = record { term = at.term; next = at.next + 1 }

      abbrev p : Term
      p = term_at nodes part

      part-there : part < length nodes
      part-there = part-below w.arena at.term at.next part here goes

      rest-done : done at ts ≡ done rest (walk p ts)
      rest-done = ap (λ ps. leave t (walk_all (terms_of ps) ts)) (drop-place (parts_at nodes at.term) at.next part goes)

      rest-ready : IsReady (walk p ts) rest
      rest-ready = record {
        there = here;
        parts_ = subst (AllByRecursion (λ q. Seen (walk p ts) (term_at nodes q))) (sym (take-place (parts_at nodes at.term) at.next part goes))
            (every-append (λ q. Seen (walk p ts) (term_at nodes q)) (take at.next (parts_at nodes at.term)) (part ∷ [])
            (each (λ q h. seen-grown ts (walk p ts) (term_at nodes q) (walk-grown p ts) h) (take at.next (parts_at nodes at.term)) w.pending.0.parts_) (walk-sees p ts, tt));
      }

      rest-pending : Pending last (walk p ts) (rest ∷ stack)
      rest-pending = (rest-ready, subst (λ s. Pending last s stack) rest-done w.pending.1)

      with-stack : (news : List Entered) → Pending last ts news → Walking last order left news
      with-stack news h = record { arena = w.arena; there = w.there; known = w.known; closed = w.closed; pending = h }

      pub passed-walks : has left part ≡ true → Walking last order left (rest ∷ stack)
      passed-walks b =
          with-stack (rest ∷ stack) (subst (λ s. Pending last s (rest ∷ stack))
          (walk-seen p ts (w.closed part part-there (sym (w.known part part-there) ∙ b))) rest-pending)

      pub entered-walks : Walking last order left (entered part ∷ rest ∷ stack)
      entered-walks = with-stack (entered part ∷ rest ∷ stack)
          (record { there = part-there; parts_ = tt }, subst (λ s. Pending last s (rest ∷ stack)) (term-walked w.arena part part-there ts) rest-pending)

  -- ---- a step of the loop

  module _ (last : List Term) (at : Entered) (old new : Walk) where
    abbrev popped : Type 0
    popped = Walking last old.order.items old.left (at ∷ reverse old.entered.items)

    gone-on : (part : ℕ) → slice_get (parts_at nodes at.term) at.next ≡ Some part → popped → IsGoneOn (record { term = at.term; next = at.next + 1 }) part old new
        → Walking last new.order.items new.left (reverse new.entered.items)
    gone-on part goes w s =
        let rest : Entered = record { term = at.term; next = at.next + 1 } in
        let items = (old.entered.items ++ rest ∷ []) in
        let first : reverse items ≡ rest ∷ reverse old.entered.items = reverse-append old.entered.items (rest ∷ []) in
        let stays : Walking last old.order.items old.left (reverse new.entered.items)
        = elim (cases_Bool (has old.left part)) [
          | inl b ↦ subst (Walking last old.order.items old.left)
              (sym (ap reverse (s.entered_ ∙ ap (λ xs. items ++ xs) (cond-true (has old.left part) [] (entered part ∷ []) b) ∙ append-nil items) ∙ first))
              (passed-walks last old.order.items old.left at (reverse old.entered.items) w part goes b)
          | inr b ↦ subst (Walking last old.order.items old.left)
              (sym (ap reverse (s.entered_ ∙ ap (λ xs. items ++ xs) (cond-false (has old.left part) [] (entered part ∷ []) b)) ∙ reverse-append items (entered part ∷ []) ∙ ap (λ xs. entered part ∷ xs) first))
              (entered-walks last old.order.items old.left at (reverse old.entered.items) w part goes)
        ] in
        subst (λ o. Walking last o new.left (reverse new.entered.items)) (sym s.order_) (subst (λ l. Walking last old.order.items l (reverse new.entered.items)) (sym s.left_) stays)

    step-cases : (o : Option ℕ) → slice_get (parts_at nodes at.term) at.next ≡ o → popped → IsStepTo o at old new → Walking last new.order.items new.left (reverse new.entered.items)
    step-cases (Some part) e w s = gone-on part e w s
    step-cases None e w s =
        subst (λ o. Walking last o new.left (reverse new.entered.items)) (sym s.order_)
        (subst (λ es. Walking last (cond (has old.left at.term) old.order.items (old.order.items ++ at.term ∷ [])) new.left (reverse es)) (sym s.entered_)
        (left-walks last old.order.items old.left at (reverse old.entered.items) w e new.left s.left_))

    pub step-walks : popped → IsStep nodes at old new → Walking last new.order.items new.left (reverse new.entered.items)
    step-walks w s = step-cases (slice_get (parts_at nodes at.term) at.next) refl w s

    -- ---- less is left

    gone-less : (part : ℕ) → slice_get (parts_at nodes at.term) at.next ≡ Some part → popped → IsGoneOn (record { term = at.term; next = at.next + 1 }) part old new
        → entered_size new.entered.items < entered_size (old.entered.items ++ at ∷ [])
    gone-less part goes w s =
        let rest : Entered = record { term = at.term; next = at.next + 1 } in
        let l = part-below w.arena at.term at.next part w.pending.0.there goes in
        let size-is = term-sized w.arena part l in
        let was : sizes (rest_of at) ≡ size (term_at nodes part) + 1 + sizes (rest_of rest)
        = ap (λ ps. sizes (terms_of ps)) (drop-place (parts_at nodes at.term) at.next part goes) in
        let a = size-append old.entered.items (at ∷ []) in
        let b = size-append old.entered.items (rest ∷ []) in
        elim (cases_Bool (has old.left part)) [
          | inl c ↦
              let d = size-append (old.entered.items ++ rest ∷ []) [] in
              let e = ap entered_size (s.entered_ ∙ ap (λ xs. (old.entered.items ++ rest ∷ []) ++ xs) (cond-true (has old.left part) [] (entered part ∷ []) c)) in
              omega arith
          | inr c ↦
              let d = size-append (old.entered.items ++ rest ∷ []) (entered part ∷ []) in
              let e = ap entered_size (s.entered_ ∙ ap (λ xs. (old.entered.items ++ rest ∷ []) ++ xs) (cond-false (has old.left part) [] (entered part ∷ []) c)) in
              omega arith
        ]

    less-cases : (o : Option ℕ) → slice_get (parts_at nodes at.term) at.next ≡ o → popped → IsStepTo o at old new → entered_size new.entered.items < entered_size (old.entered.items ++ at ∷ [])
    less-cases (Some part) e w s = gone-less part e w s
    less-cases None e w s = (let a = size-append old.entered.items (at ∷ []) in let b = ap entered_size s.entered_ in omega arith)

    pub step-less : popped → IsStep nodes at old new → entered_size new.entered.items < entered_size (old.entered.items ++ at ∷ [])
    step-less w s = less-cases (slice_get (parts_at nodes at.term) at.next) refl w s

  -- ---- the whole walk

  pub first-walks : (term : ℕ) (left : TermMap Bool) → IsArena nodes → term < length nodes → ((k : ℕ) → has left k ≡ false) → Walking (walk (term_at nodes term) []) [] left (entered term ∷ [])
  first-walks term left arena l e = record {
    arena = arena;
    there = All-nil (λ k. k < length nodes);
    known = λ k lk. e k;
    closed = λ k lk h. absurd (false≢true h);
    pending = (record { there = l; parts_ = tt }, sym (term-walked arena term l []));
  }

  pub pop-walks : (last : List Term) (order : List ℕ) (left : TermMap Bool) (at : Entered) (items rest : List Entered) → items ≡ rest ++ at ∷ [] → Walking last order left (reverse items)
      → Walking last order left (at ∷ reverse rest)
  pop-walks last order left at items rest e w = subst (Walking last order left) (ap reverse e ∙ reverse-append rest (at ∷ [])) w

  pub whole-walk : (last : List Term) (order : List ℕ) (left : TermMap Bool) (items : List Entered) → items ≡ [] → Walking last order left (reverse items) → AreNumbersOf nodes last order
  whole-walk last order left items e w =
      let ended : Walking last order left [] = subst (λ xs. Walking last order left (reverse xs)) e w in
      record { there = ended.there; terms = ended.pending }
