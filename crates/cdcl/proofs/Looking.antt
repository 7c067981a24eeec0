-- The watch invariant, as literals are propagated and watches change.
use Rattle.std.proofs.Common.{◌≡◌, ◌≢◌, ℕ, ◌+◌, ◌<◌, ◌≤◌, ℤ, pos, true, false, List, [], ◌∷◌, ◌++◌, length, get_or, take, Some, sym, ap, ◌∙◌, subst, arith, ◌⊎◌, inl, inr}
use Rattle.std.specs.Prelude.{slice_get}
use Rattle.std.proofs.Math.ListN.{set}
use Rattle.std.proofs.lemmas.Bool.{cases_eq, cases_lt, both_ways}
use Rattle.std.proofs.lemmas.List.{get_or_append_left, get_or_push, get_or-take, length-take-le, length_push}
use Rattle.std.specs.List.{All}
use Rattle.std.proofs.lemmas.Option.{same_Some, slice_get-get_or, slice_get_within}
use Rattle.cnf_core.specs.Deriving.{is_false}
use Rattle.cnf_core.specs.Literals.{Names, has_literal, opposite, variable}
use Rattle.cnf_core.specs.Trails.{IsApart, literal_at}
use Rattle.cnf_core.proofs.LiteralFacts.{has-at, has-place, opposite-opposite, variable-opposite}
use Rattle.cnf_core.proofs.ClauseStatuses.{has-prefix}
use Rattle.cdcl.specs.Watching.{AreWatched, IsListed, IsLookedAt, IsTrueBy, IsTrueFirst, IsWatched, IsWatching, list_of}
use Rattle.cdcl.specs.declared.watches.Pair.{Pair}
use Rattle.cdcl.specs.declared.watches.Watches.{Watches}
use Rattle.cdcl.proofs.Jumping.{get-prefix}
use Rattle.cdcl.proofs.Membership.{no-opposite, opposite-same}
use Rattle.cdcl.proofs.Watched.{push-cases, set-cases, turned}

-- ---- another trail

module _ (ts us : List ℤ) (propagated late : ℕ) (starts ss : List ℕ)
    (looked : (p : ℕ) → p < late → (p < propagated) × (literal_at us p ≡ literal_at ts p))
    (by : (p : ℕ) (l : ℤ) → p < late → IsTrueBy ts starts p l → IsTrueBy us ss p l)
    (first : (l : ℤ) → IsTrueFirst ts starts l → IsTrueFirst us ss l) where
  watching-kept : (c : List ℤ) (pair : Pair) → IsWatching ts propagated starts c pair → IsWatching us late ss c pair
  watching-kept c pair h = record {
    inside = h.inside;
    beside = λ a b are p lt e. by p b lt (h.beside a b are p (looked p lt).0 (sym (looked p lt).1 ∙ e));
    two = elim h.two [ inl differ ↦ inl differ | inr now ↦ inr (first pair.first.number now) ];
  }

  watched-kept : (vars : ℕ) (cs : List (List ℤ)) (w : Watches) → late ≤ length us → ((i : ℕ) → i < length ss → get_or ss i 0 ≤ late)
      → IsWatched vars cs ts propagated starts w → IsWatched vars cs us late ss w
  watched-kept vars cs w within decided h = record {
    propagated_true = within;
    decided = decided;
    watching = λ k c pair e f. watching-kept c pair (h.watching k c pair e f);
    listed = h.listed;
    rooms = h.rooms;
  }

-- one literal more
pub watched-push : (vars : ℕ) (cs : List (List ℤ)) (ts us : List ℤ) (propagated : ℕ) (starts : List ℕ) (w : Watches) (l : ℤ) → us ≡ ts ++ l ∷ []
    → IsWatched vars cs ts propagated starts w → IsWatched vars cs us propagated starts w
watched-push vars cs ts us propagated starts w l e h = subst (λ vs. IsWatched vars cs vs propagated starts w) (sym e) (watched-kept ts (ts ++ l ∷ []) propagated propagated starts starts
    (λ p lt. (lt, get_or_append_left ts (l ∷ []) (pos 0) p (omega (arith, lt, h.propagated_true))))
    (λ p m lt b. record {
      place = b.place;
      within = omega (arith, b.within, length_push ts l);
      literal = get_or_append_left ts (l ∷ []) (pos 0) b.place b.within ∙ b.literal;
      early = b.early;
    })
    (λ m b. record {
      place = b.place;
      within = omega (arith, b.within, length_push ts l);
      literal = get_or_append_left ts (l ∷ []) (pos 0) b.place b.within ∙ b.literal;
      first = b.first;
    })
    vars cs w (omega (arith, h.propagated_true, length_push ts l)) h.decided h)

-- one decision more
module _ (ts : List ℤ) (starts : List ℕ) (l : ℤ) where
  start-cases : (i : ℕ) → i < length (starts ++ length ts ∷ []) → ((i < length starts) × (get_or (starts ++ length ts ∷ []) i 0 ≡ get_or starts i 0)) ⊎ (get_or (starts ++ length ts ∷ []) i 0 ≡ length ts)
  start-cases i lt = elim (cases_lt i (length starts)) [
    | inl below ↦ inl (below, get_or_append_left starts (length ts ∷ []) 0 i below)
    | inr above ↦ inr (get_or_push starts (length ts) 0 i (omega (arith, lt, above, length_push starts (length ts))))
  ]

  watched-begun : (vars : ℕ) (cs : List (List ℤ)) (w : Watches) (propagated : ℕ) → propagated ≡ length ts → IsWatched vars cs ts propagated starts w
      → IsWatched vars cs (ts ++ l ∷ []) propagated (starts ++ length ts ∷ []) w
  watched-begun vars cs w propagated all h = watched-kept ts (ts ++ l ∷ []) propagated propagated starts (starts ++ length ts ∷ [])
      (λ p lt. (lt, get_or_append_left ts (l ∷ []) (pos 0) p (omega (arith, lt, h.propagated_true))))
      (λ p m lt b. record {
        place = b.place;
        within = omega (arith, b.within, length_push ts l);
        literal = get_or_append_left ts (l ∷ []) (pos 0) b.place b.within ∙ b.literal;
        early = λ i lt_i less. elim (start-cases i lt_i) [
          | inl old ↦ omega (arith, old.1, b.early i old.0 (omega (arith, old.1, less)))
          | inr new ↦ omega (arith, new, b.within)
        ];
      })
      (λ m b. record {
        place = b.place;
        within = omega (arith, b.within, length_push ts l);
        literal = get_or_append_left ts (l ∷ []) (pos 0) b.place b.within ∙ b.literal;
        first = λ i lt_i. elim (start-cases i lt_i) [
          | inl old ↦ omega (arith, old.1, b.first i old.0)
          | inr new ↦ omega (arith, new, b.within)
        ];
      })
      vars cs w (omega (arith, h.propagated_true, length_push ts l))
      (λ i lt_i. elim (start-cases i lt_i) [
        | inl old ↦ omega (arith, old.1, h.decided i old.0)
        | inr new ↦ omega (arith, new, all)
      ]) h

pub watched-decide : (vars : ℕ) (cs : List (List ℤ)) (ts us : List ℤ) (propagated : ℕ) (starts ss : List ℕ) (w : Watches) (l : ℤ) (n : ℕ) → us ≡ ts ++ l ∷ [] → ss ≡ starts ++ n ∷ []
    → n ≡ length ts → propagated ≡ length ts → IsWatched vars cs ts propagated starts w → IsWatched vars cs us propagated ss w
watched-decide vars cs ts us propagated starts ss w l n e k is all h = subst (λ vs. IsWatched vars cs vs propagated ss w) (sym e)
    (subst (λ bs. IsWatched vars cs (ts ++ l ∷ []) propagated bs w) (sym (k ∙ ap (λ x. starts ++ x ∷ []) is)) (watched-begun ts starts l vars cs w propagated all h))

-- back to a level
pub watched-back : (vars : ℕ) (cs : List (List ℤ)) (ts us : List ℤ) (propagated cut b : ℕ) (starts ss : List ℕ) (w : Watches) → b < length starts → get_or starts b 0 ≡ cut → cut < length ts
    → ((i : ℕ) → i < b → get_or starts i 0 < cut) → us ≡ take cut ts → ss ≡ take b starts → IsWatched vars cs ts propagated starts w → IsWatched vars cs us cut ss w
watched-back vars cs ts us propagated cut b starts ss w within is under rising e k h =
    let sized : length (take cut ts) ≡ cut = length-take-le cut ts (omega (arith, under)) in
    let fewer : length (take b starts) ≡ b = length-take-le b starts (omega (arith, within)) in
    subst (λ vs. IsWatched vars cs vs cut ss w) (sym e) (subst (λ bs. IsWatched vars cs (take cut ts) cut bs w) (sym k)
    (watched-kept ts (take cut ts) propagated cut starts (take b starts)
    (λ p lt. (omega (arith, lt, is, h.decided b within), get_or-take cut ts p (pos 0) lt))
    (λ p m lt t.
    let early : t.place < cut = omega (arith, is, t.early b within (omega (arith, is, lt))) in
    record {
      place = t.place;
      within = omega (arith, early, sized);
      literal = get_or-take cut ts t.place (pos 0) early ∙ t.literal;
      early = λ i lt_i less.
          let below : i < b = omega (arith, lt_i, fewer) in
          let same_start = get_or-take b starts i 0 below in
          omega (arith, same_start, t.early i (omega (arith, below, within)) (omega (arith, same_start, less)));
    })
    (λ m t.
    let early : t.place < cut = omega (arith, is, t.first b within) in
    record {
      place = t.place;
      within = omega (arith, early, sized);
      literal = get_or-take cut ts t.place (pos 0) early ∙ t.literal;
      first = λ i lt_i.
          let below : i < b = omega (arith, lt_i, fewer) in
          omega (arith, get_or-take b starts i 0 below, t.first i (omega (arith, below, within)));
    })
    vars cs w (omega (arith, sized))
    (λ i lt_i.
    let below : i < b = omega (arith, lt_i, fewer) in
    omega (arith, get_or-take b starts i 0 below, rising i below))
    h))

-- ---- other clauses and watches

-- a clause more, which is not watched yet
pub watched-clauses : (vars : ℕ) (cs : List (List ℤ)) (c : List ℤ) (ts : List ℤ) (propagated : ℕ) (starts : List ℕ) (w : Watches) → length w.pairs.items ≡ length cs
    → IsWatched vars cs ts propagated starts w → IsWatched vars (cs ++ c ∷ []) ts propagated starts w
watched-clauses vars cs c ts propagated starts w count h = record {
  propagated_true = h.propagated_true;
  decided = h.decided;
  watching = λ k d pair e f.
      let at = slice_get-get_or cs k [] (omega (arith, slice_get_within w.pairs.items k pair f, count)) in
      h.watching k d pair (at ∙ sym (get-prefix cs (c ∷ []) k (get_or cs k []) at) ∙ e) f;
  listed = h.listed;
  rooms = h.rooms;
}

-- the next clause is watched
pub watched-add : (vars : ℕ) (cs : List (List ℤ)) (ts : List ℤ) (propagated : ℕ) (starts : List ℕ) (w v : Watches) (pair : Pair) → v.pairs.items ≡ w.pairs.items ++ pair ∷ []
    → ((l : ℤ) (first k : ℕ) → IsListed (list_of w l) first k → IsListed (list_of v l) first k)
    → ((a b : ℤ) → AreWatched pair a b → IsListed (list_of v a) 0 (length w.pairs.items))
    → length v.lists.items ≡ length w.lists.items
    → (c : List ℤ) → slice_get cs (length w.pairs.items) ≡ Some c → IsWatching ts propagated starts c pair
    → IsWatched vars cs ts propagated starts w → IsWatched vars cs ts propagated starts v
watched-add vars cs ts propagated starts w v pair pushed kept new rooms c known g h = record {
  propagated_true = h.propagated_true;
  decided = h.decided;
  watching = λ k d p e f. elim (push-cases w.pairs.items pair p k (ap (λ ps. slice_get ps k) (sym pushed) ∙ f)) [
    | inl old ↦ h.watching k d p e old
    | inr last ↦ subst (λ q. IsWatching ts propagated starts d q) last.1
        (subst (λ x. IsWatching ts propagated starts x pair) (same_Some c d (sym known ∙ ap (slice_get cs) (sym last.0) ∙ e)) g)
  ];
  listed = λ k p a b f are. elim (push-cases w.pairs.items pair p k (ap (λ ps. slice_get ps k) (sym pushed) ∙ f)) [
    | inl old ↦ kept a 0 k (h.listed k p a b old are)
    | inr last ↦ subst (IsListed (list_of v a) 0) (sym last.0) (new a b (subst (λ q. AreWatched q a b) (sym last.1) are))
  ];
  rooms = λ l few. omega (arith, rooms, h.rooms l few);
}

-- a literal that is false and was not propagated yet, and a clause that watches it besides another
module _ (cs : List (List ℤ)) (ts : List ℤ) (propagated : ℕ) (starts : List ℕ) (w v : Watches) (off : ℤ) (n : ℕ) (old pair : Pair)
    (false_now : has_literal ts (opposite off) ≡ true) (not_true : has_literal ts off ≡ false) (at : slice_get w.pairs.items n ≡ Some old) (are : AreWatched old off pair.first.number) where
  other-differs : (c : List ℤ) → IsWatching ts propagated starts c old → pair.first.number ≢ off
  other-differs c g e =
      let firsts : old.first.number ≡ off = elim are [ inl x ↦ x.0 | inr y ↦ y.1 ∙ e ] in
      let seconds : old.second.number ≡ off = elim are [ inl x ↦ x.1 ∙ e | inr y ↦ y.0 ] in
      elim g.two [
        | inl differ ↦ differ (firsts ∙ sym seconds)
        | inr now ↦ both_ways (has_literal ts off) not_true (ap (has_literal ts) (sym (now.literal ∙ firsts)) ∙ has-at ts now.place now.within)
      ]

  module _ (changed : v.pairs.items ≡ set w.pairs.items n pair) (differ : pair.second.number ≢ pair.first.number) (open_now : is_false ts pair.second.number ≡ false) where
    second-differs : pair.second.number ≢ off
    second-differs e = both_ways (is_false ts pair.second.number) open_now (ap (is_false ts) e ∙ false_now)

    watching-changed : (c : List ℤ) → propagated ≤ length ts → has_literal c pair.second.number ≡ true → IsWatching ts propagated starts c old → IsWatching ts propagated starts c pair
    watching-changed c within inside g = record {
      inside = λ a b h. elim h [
        | inl x ↦ ap (has_literal c) (sym x.0) ∙ g.inside pair.first.number off (turned old off pair.first.number are)
        | inr y ↦ ap (has_literal c) (sym y.0) ∙ inside
      ];
      beside = λ a b h p lt e. elim h [
        | inl x ↦
            let r = g.beside pair.first.number off (turned old off pair.first.number are) p lt (e ∙ ap opposite (sym x.0)) in
            absurd (both_ways (has_literal ts off) not_true (ap (has_literal ts) (sym r.literal) ∙ has-at ts r.place r.within))
        | inr y ↦ absurd (both_ways (is_false ts pair.second.number) open_now
            (ap (has_literal ts) (sym (e ∙ ap opposite (sym y.0))) ∙ has-at ts p (omega (arith, lt, within))))
      ];
      two = inl (λ e. differ (sym e));
    }

    module _ (vars : ℕ) (c : List ℤ) (known : slice_get cs n ≡ Some c) (inside : has_literal c pair.second.number ≡ true)
        (kept : (l : ℤ) (k : ℕ) → (l ≢ off) ⊎ (k ≢ n) → IsListed (list_of w l) 0 k → IsListed (list_of v l) 0 k)
        (here : IsListed (list_of v pair.second.number) 0 n) (rooms : length v.lists.items ≡ length w.lists.items) (h : IsWatched vars cs ts propagated starts w) where
      before : IsWatching ts propagated starts c old
      before = h.watching n c old known at

      pub watched-changed : IsWatched vars cs ts propagated starts v
      watched-changed = record {
        propagated_true = h.propagated_true;
        decided = h.decided;
        watching = λ k d p e f. elim (set-cases w.pairs.items n pair p k (ap (λ ps. slice_get ps k) (sym changed) ∙ f)) [
          | inl other ↦ h.watching k d p e other.1
          | inr this ↦ subst (λ q. IsWatching ts propagated starts d q) this.1
              (subst (λ x. IsWatching ts propagated starts x pair) (same_Some c d (sym known ∙ ap (slice_get cs) (sym this.0) ∙ e)) (watching-changed c h.propagated_true inside before))
        ];
        listed = λ k p a b f both. elim (set-cases w.pairs.items n pair p k (ap (λ ps. slice_get ps k) (sym changed) ∙ f)) [
          | inl other ↦ kept a k (inr other.0) (h.listed k p a b other.1 both)
          | inr this ↦ subst (IsListed (list_of v a) 0) (sym this.0) (elim (subst (λ q. AreWatched q a b) (sym this.1) both) [
            | inl x ↦ subst (λ l. IsListed (list_of v l) 0 n) x.0 (kept pair.first.number n (inl (other-differs c before))
                (h.listed n old pair.first.number off at (turned old off pair.first.number are)))
            | inr y ↦ subst (λ l. IsListed (list_of v l) 0 n) y.0 here
          ])
        ];
        rooms = λ l few. omega (arith, rooms, h.rooms l few);
      }

      pub looked-changed : (place : ℕ) → ((k : ℕ) → k ≢ n → IsListed (list_of w off) place k → IsListed (list_of v off) place k) → IsLookedAt ts w off place → IsLookedAt ts v off place
      looked-changed place more looked = λ k p b f both. elim (set-cases w.pairs.items n pair p k (ap (λ ps. slice_get ps k) (sym changed) ∙ f)) [
        | inl other ↦ elim (looked k p b other.1 both) [ inl on ↦ inl on | inr l ↦ inr (more k other.0 l) ]
        | inr this ↦ elim (subst (λ q. AreWatched q off b) (sym this.1) both) [
          | inl x ↦ absurd (other-differs c before x.0)
          | inr y ↦ absurd (second-differs y.0)
        ]
      ]

-- ---- a list, place by place

pub looked-next : (ts : List ℤ) (w : Watches) (off : ℤ) (at n : ℕ) → get_or (list_of w off) at 0 ≡ n
    → ((pair : Pair) (b : ℤ) → slice_get w.pairs.items n ≡ Some pair → AreWatched pair off b → has_literal ts b ≡ true)
    → IsLookedAt ts w off at → IsLookedAt ts w off (at + 1)
looked-next ts w off at n there here looked = λ k pair b f both. elim (looked k pair b f both) [
  | inl on ↦ inl on
  | inr l ↦ elim (cases_eq l.at at) [
    | inl is ↦ let same_number : k ≡ n = sym l.there ∙ ap (λ i. get_or (list_of w off) i 0) is ∙ there in
        inl (here pair b (ap (slice_get w.pairs.items) (sym same_number) ∙ f) both)
    | inr other ↦ inr (record { at = l.at; later = omega (arith, l.later, other); within = l.within; there = l.there })
  ]
]

pub looked-push : (ts us : List ℤ) (w : Watches) (off l : ℤ) (at : ℕ) → us ≡ ts ++ l ∷ [] → IsLookedAt ts w off at → IsLookedAt us w off at
looked-push ts us w off l at e looked = λ k pair b f both. elim (looked k pair b f both) [
  | inl on ↦ inl (ap (λ vs. has_literal vs b) e ∙ has-prefix ts (l ∷ []) b on)
  | inr rest ↦ inr rest
]

pub looked-none : (vars : ℕ) (cs : List (List ℤ)) (ts : List ℤ) (propagated : ℕ) (starts : List ℕ) (w : Watches) (off : ℤ) → IsWatched vars cs ts propagated starts w → IsLookedAt ts w off 0
looked-none vars cs ts propagated starts w off h = λ k pair b f both. inr (h.listed k pair off b f both)

-- one literal more was propagated
pub watched-propagated : (vars : ℕ) (cs : List (List ℤ)) (ts : List ℤ) (propagated : ℕ) (starts : List ℕ) (w : Watches) (off : ℤ) → propagated < length ts → literal_at ts propagated ≡ opposite off
    → IsLookedAt ts w off (length (list_of w off)) → IsWatched vars cs ts propagated starts w → IsWatched vars cs ts (propagated + 1) starts w
watched-propagated vars cs ts propagated starts w off lt off_now looked h = record {
  propagated_true = omega (arith, lt);
  decided = λ i lt_i. omega (arith, h.decided i lt_i);
  watching = λ k c pair e f.
      let g = h.watching k c pair e f in
      record {
        inside = g.inside;
        beside = λ a b are p lt_p is. elim (cases_lt p propagated) [
          | inl before ↦ g.beside a b are p before is
          | inr now ↦
              let here : p ≡ propagated = omega (arith, lt_p, now) in
              let same_literal : off ≡ a = opposite-same off a (sym off_now ∙ ap (literal_at ts) (sym here) ∙ is) in
              elim (looked k pair b f (subst (λ l. AreWatched pair l b) (sym same_literal) are)) [
                | inl on ↦ let r = has-place ts b on in
                    record { place = r.0; within = r.1; literal = r.2; early = λ i lt_i less. absurd (omega (arith, h.decided i lt_i, less, here)) }
                | inr rest ↦ absurd (omega (arith, rest.later, rest.within))
              ]
        ];
        two = g.two;
      };
  listed = h.listed;
  rooms = h.rooms;
}

-- ---- the literal that is propagated

module _ (ts : List ℤ) (apart : IsApart ts) (vars : ℕ) (named : All (Names vars) ts) (propagated : ℕ) (off : ℤ) (lt : propagated < length ts) (e : literal_at ts propagated ≡ opposite off) where
  pub opposite-true : has_literal ts (opposite off) ≡ true
  opposite-true = ap (has_literal ts) (sym e) ∙ has-at ts propagated lt

  pub off-not-true : has_literal ts off ≡ false
  off-not-true = ap (has_literal ts) (sym (ap opposite e ∙ opposite-opposite off)) ∙ no-opposite ts apart vars named propagated lt

  pub off-named : variable off ≤ vars
  off-named = omega (arith, ap variable e, variable-opposite off, (named propagated (pos 0) lt).1)
