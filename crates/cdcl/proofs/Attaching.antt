-- Clauses that are attached: at the beginning of a search, and when they are learned.
use Rattle.std.proofs.Common.{◌≡◌, ℕ, ◌+◌, ◌*◌, ◌<◌, ◌≤◌, ℤ, pos, true, List, [], ◌∷◌, ◌++◌, length, refl, sym, ap, ◌∙◌, subst, arith, inl, inr}
use Rattle.std.specs.Prelude.{slice_get}
use Rattle.std.proofs.lemmas.Bool.{both_ways}
use Rattle.std.proofs.lemmas.List.{get_or_append_left, get_or_push, length_push}
use Rattle.std.proofs.lemmas.Option.{none-some}
use Rattle.cnf_core.specs.Deriving.{is_false}
use Rattle.cnf_core.specs.Literals.{has_literal, opposite}
use Rattle.cnf_core.specs.Trails.{literal_at}
use Rattle.cnf_core.proofs.LiteralFacts.{has-at, has-place, index_of-below}
use Rattle.cdcl.specs.Searching.{IsAsserting}
use Rattle.cdcl.proofs.Membership.{forced-parts}
use Rattle.cdcl.specs.Watching.{IsWatched, IsWatching}
use Rattle.cdcl.specs.declared.watches.Pair.{Pair}
use Rattle.cdcl.specs.declared.watches.Watches.{Watches}

pub watched-none : (vars : ℕ) (cs : List (List ℤ)) (w : Watches) → w.pairs.items ≡ [] → length w.lists.items ≡ vars * 2 + 2 → IsWatched vars cs [] 0 [] w
watched-none vars cs w none rooms = record {
  propagated_true = omega arith;
  decided = λ i lt. absurd (omega (arith, lt));
  watching = λ k c pair e f. absurd (none-some pair (ap (λ ps. slice_get ps k) (sym none) ∙ f));
  listed = λ k pair a b f. absurd (none-some pair (ap (λ ps. slice_get ps k) (sym none) ∙ f));
  rooms = λ l few. omega (arith, rooms, index_of-below l vars few);
}

pub asserted-watching : (ts us : List ℤ) (propagated : ℕ) (starts : List ℕ) (c : List ℤ) (pair : Pair) → propagated ≤ length ts → us ≡ ts ++ pair.first.number ∷ [] → IsAsserting ts starts c pair.first.number pair.second.number
    → IsWatching us propagated starts c pair
asserted-watching ts us propagated starts c pair within e h =
    let f = forced-parts ts c pair.first.number h.forces in
    subst (λ vs. IsWatching vs propagated starts c pair) (sym e) (record {
      inside = λ a b are. elim are [
        | inl x ↦ ap (has_literal c) (sym x.0) ∙ f.within
        | inr y ↦ ap (has_literal c) (sym y.0) ∙ h.inside
      ];
      beside = λ a b are p lt is.
          let lt_p : p < length ts = omega (arith, lt, within) in
          let here : literal_at ts p ≡ opposite a = sym (get_or_append_left ts (pair.first.number ∷ []) (pos 0) p lt_p) ∙ is in
          elim are [
            | inl x ↦ absurd (both_ways (is_false ts pair.first.number) f.not_false (ap (has_literal ts) (ap opposite x.0 ∙ sym here) ∙ has-at ts p lt_p))
            | inr y ↦ record {
              place = length ts;
              within = omega (arith, length_push ts pair.first.number);
              literal = get_or_push ts pair.first.number (pos 0) (length ts) refl ∙ y.1;
              early = λ i lt_i less. absurd (omega (arith, h.last p i lt_p (here ∙ ap opposite (sym y.0)) lt_i, less));
            }
          ];
      two = elim h.two [
        | inl differ ↦ inl differ
        | inr none ↦ inr (record {
          place = length ts;
          within = omega (arith, length_push ts pair.first.number);
          literal = get_or_push ts pair.first.number (pos 0) (length ts) refl;
          first = λ i lt_i. absurd (omega (arith, lt_i, none));
        })
      ];
    })

-- before any decision, and before anything was propagated
module _ (ts : List ℤ) (propagated : ℕ) (starts : List ℕ) (c : List ℤ) (pair : Pair) (early : propagated ≡ 0) (undecided : starts ≡ []) where
  pub begun-once : pair.second.number ≡ pair.first.number → has_literal c pair.first.number ≡ true → has_literal ts pair.first.number ≡ true → IsWatching ts propagated starts c pair
  begun-once is inside on =
      let r = has-place ts pair.first.number on in
      record {
        inside = λ a b are. elim are [
          | inl x ↦ ap (has_literal c) (sym x.0) ∙ inside
          | inr y ↦ ap (has_literal c) (sym y.0 ∙ is) ∙ inside
        ];
        beside = λ a b are p lt. absurd (omega (arith, lt, early));
        two = inr (record { place = r.0; within = r.1; literal = r.2; first = λ i lt. absurd (omega (arith, lt, ap length undecided)) });
      }
