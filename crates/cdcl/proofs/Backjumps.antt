-- What makes a learned clause new, where one literal of the last level is marked.
use Rattle.std.proofs.Common.{◌≡◌, ◌≢◌, ℕ, ◌+◌, ◌-◌, ◌<◌, ◌≤◌, ℤ, pos, Bool, true, false, List, length, get_or, take, map, sym, ap, ◌∙◌, subst, arith, ◌⊎◌, inl, inr}
use Rattle.std.proofs.lemmas.Bool.{cases_lt, both_ways}
use Rattle.std.proofs.lemmas.List.{get_or-take, length-take-le, take-take}
use Rattle.std.specs.List.{All}
use Rattle.cnf_core.specs.Licensing.{IsNew}
use Rattle.cnf_core.specs.Deriving.{forces}
use Rattle.cnf_core.specs.Literals.{Names, has_literal, opposite}
use Rattle.cnf_core.specs.Trails.{IsApart, HasStatus, literal_at}
use Rattle.cnf_core.specs.declared.clause_status.ClauseStatus.TheVariants.{Open}
use Rattle.cdcl.specs.Marks.{count_from, is_marked, marked_literals}
use Rattle.cdcl.specs.Searching.{IsAsserting, IsClosed}
use Rattle.cdcl.proofs.Counting.{OneMarked, one-marked}
use Rattle.cnf_core.proofs.LiteralFacts.{opposite-opposite}
use Rattle.cdcl.proofs.Conflicts.{has-opposites, marked-at}
use Rattle.cdcl.proofs.LearnedClauses.{learned-forces, learned-new, learned-open}
use Rattle.cdcl.proofs.Membership.{opposite-same, same-place}

module _ (cs : List (List ℤ)) (ts : List ℤ) (apart : IsApart ts) (vars : ℕ) (named : All (Names vars) ts) (marks : List Bool) (floor second : ℕ)
    (sized : length marks ≡ length ts) (counted : count_from floor marks ≡ 1) (low : second ≤ floor)
    (none : (p : ℕ) → second ≤ p → p < floor → is_marked marks p ≡ false) where
  last : OneMarked floor marks
  last = one-marked floor marks counted

  others : (p : ℕ) → p < length ts → is_marked marks p ≡ true → (p ≡ last.place) ⊎ (p < second)
  others p lt on = elim (cases_lt p floor) [
    | inl below ↦ elim (cases_lt p second) [
      | inl early ↦ inr early
      | inr late ↦ absurd (both_ways (is_marked marks p) (none p late below) on)
    ]
    | inr above ↦ inl (last.only p above (omega (arith, lt, sized)) on)
  ]

  pub back-new : (cut : ℕ) → second ≤ cut → cut ≤ floor → IsClosed cs (take cut ts) → IsNew cs (map opposite (marked_literals marks ts))
  back-new cut le above closed = learned-new cs ts apart vars named marks last.place second (omega (arith, last.within, sized)) last.marked others
      cut le (omega (arith, above, last.above)) closed

  pub back-open : ((p : ℕ) → second ≡ p + 1 → is_marked marks p ≡ true) → (s : ℕ) → s < second → HasStatus (take s ts) (map opposite (marked_literals marks ts)) Open
  back-open marked s lt =
      let w = second - 1 in
      learned-open cs ts apart vars named marks s last.place w (omega (arith, lt, low, last.above)) (omega (arith, lt))
      (omega (arith, last.within, sized)) (omega (arith, lt, low, last.above, last.within, sized)) (λ e. omega (arith, e, lt, low, last.above))
      last.marked (marked w (omega (arith, lt)))

  -- at the start of the level that is gone back to, of which these are the trail and the decisions that are left
  module _ (marked : (p : ℕ) → second ≡ p + 1 → is_marked marks p ≡ true) (starts : List ℕ) (level cut : ℕ) (within : level < length starts) (le : second ≤ cut) (above : cut ≤ floor)
      (below : (i : ℕ) → i < level → get_or starts i 0 < second) (us : List ℤ) (ss : List ℕ) (back : us ≡ take cut ts) (fewer : ss ≡ take level starts) where
    pub start-kept : (i : ℕ) → i < length ss → (i < level) × (get_or ss i 0 ≡ get_or starts i 0)
    start-kept i lt =
        let less : i < level = omega (arith, lt, ap length fewer, length-take-le level starts (omega (arith, within))) in
        (less, ap (λ bs. get_or bs i 0) fewer ∙ get_or-take level starts i 0 less)

    pub back-unforced : (i : ℕ) → i < length ss → HasStatus (take (get_or ss i 0) us) (map opposite (marked_literals marks ts)) Open
    back-unforced i lt =
        let k = start-kept i lt in
        let early = below i k.0 in
        let taken : take (get_or ss i 0) us ≡ take (get_or starts i 0) ts
        = ap (λ n. take n us) k.1 ∙ ap (take (get_or starts i 0)) back ∙ take-take (get_or starts i 0) cut ts (omega (arith, early, le)) in
        subst (λ vs. HasStatus vs (map opposite (marked_literals marks ts)) Open) (sym taken) (back-open marked (get_or starts i 0) early)

    module _ (asserted beside_it : ℤ) (first : (p : ℕ) → floor ≤ p → p < length ts → is_marked marks p ≡ true → asserted ≡ opposite (literal_at ts p))
        (beside : (p : ℕ) → second ≡ p + 1 → beside_it ≡ opposite (literal_at ts p)) (alone : second ≡ 0 → beside_it ≡ asserted) where
      u_within : last.place < length ts
      u_within = omega (arith, last.within, sized)

      first_is : asserted ≡ opposite (literal_at ts last.place)
      first_is = first last.place last.above u_within last.marked

      has_first : has_literal (map opposite (marked_literals marks ts)) asserted ≡ true
      has_first = ap (has_literal (map opposite (marked_literals marks ts))) first_is ∙ has-opposites (marked_literals marks ts) (literal_at ts last.place) (marked-at marks ts last.place u_within last.marked)

      forces_first : forces us (map opposite (marked_literals marks ts)) asserted ≡ true
      forces_first = subst (λ vs. forces vs (map opposite (marked_literals marks ts)) asserted ≡ true) (sym back)
          (subst (λ l. forces (take cut ts) (map opposite (marked_literals marks ts)) l ≡ true) (sym first_is)
          (learned-forces cs ts apart vars named marks last.place second u_within last.marked others cut le (omega (arith, above, last.above))))

      no-level : second ≡ 0 → length ss ≡ 0
      no-level none_left = elim (cases_lt 0 level) [
        | inl some ↦ absurd (omega (arith, below 0 some, none_left))
        | inr no_more ↦ omega (arith, no_more, ap length fewer, length-take-le level starts (omega (arith, within)))
      ]

      -- the literal before is at place w
      module _ (w : ℕ) (at : second ≡ w + 1) where
        w_within : w < length ts
        w_within = omega (arith, at, low, last.above, u_within)

        has_second : has_literal (map opposite (marked_literals marks ts)) beside_it ≡ true
        has_second = ap (has_literal (map opposite (marked_literals marks ts))) (beside w at) ∙ has-opposites (marked_literals marks ts) (literal_at ts w) (marked-at marks ts w w_within (marked w at))

        last_level : (p i : ℕ) → p < length us → literal_at us p ≡ opposite beside_it → i < length ss → get_or ss i 0 ≤ p
        last_level p i lt e lt_i =
            let inside : p < cut = omega (arith, lt, ap length back, length-take-le cut ts (omega (arith, above, last.above, u_within))) in
            let there : literal_at ts p ≡ literal_at ts w = sym (ap (λ vs. literal_at vs p) back ∙ get_or-take cut ts p (pos 0) inside) ∙ e ∙ ap opposite (beside w at) ∙ opposite-opposite (literal_at ts w) in
            let same_one : p ≡ w = same-place ts apart p w (omega (arith, inside, above, last.above, u_within)) w_within there in
            let k = start-kept i lt_i in
            omega (arith, k.1, below i k.0, at, same_one)

        differ : asserted ≢ beside_it
        differ e =
            let same_one : last.place ≡ w = same-place ts apart last.place w u_within w_within (opposite-same (literal_at ts last.place) (literal_at ts w) (sym first_is ∙ e ∙ beside w at)) in
            omega (arith, same_one, at, low, last.above)

      pub back-asserting : IsAsserting us ss (map opposite (marked_literals marks ts)) asserted beside_it
      back-asserting = elim (cases_lt 0 second) [
        | inl some ↦ let at : second ≡ (second - 1) + 1 = omega (arith, some) in record {
          forces = forces_first;
          inside = has_second (second - 1) at;
          last = last_level (second - 1) at;
          two = inl (differ (second - 1) at);
        }
        | inr no_more ↦ let none_left : second ≡ 0 = omega (arith, no_more) in record {
          forces = forces_first;
          inside = ap (has_literal (map opposite (marked_literals marks ts))) (alone none_left) ∙ has_first;
          last = λ p i lt e lt_i. absurd (omega (arith, lt_i, no-level none_left));
          two = inr (no-level none_left);
        }
      ]
