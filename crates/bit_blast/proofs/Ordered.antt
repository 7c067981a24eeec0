-- The terms of a walk: each is new where it comes, and its parts come before it.
use Rattle.std.proofs.Common.{◌≡◌, true, List, [], ◌∷◌, ◌++◌, ap, sym, ◌∙◌, subst, inl, inr, append_assoc}
use Rattle.std.proofs.lemmas.List.{append-nil}
use Rattle.std.proofs.lemmas.Bool.{cases_Bool, cond-true, cond-false}
use Rattle.bv_terms.specs.TermTrees.{Term, constant, input, apply, not_, binary, slice, pick, IsTerm}
use Rattle.bv_terms.specs.Walks.{is_among, leave, walk}
use Rattle.bit_blast.specs.Goals.{IsUnapplied}
use Rattle.bit_blast.specs.Orders.{OfParts, Ordered}
use Rattle.bv_terms.proofs.Sights.{among-last, among-more}

ordered-append : (seen xs ys : List Term) → Ordered seen xs → Ordered (seen ++ xs) ys → Ordered seen (xs ++ ys)
ordered-append seen [] ys h k = subst (λ s. Ordered s ys) (append-nil seen) k
ordered-append seen (x ∷ xs) ys h k =
    (h.0, ordered-append (seen ++ x ∷ []) xs ys h.1 (subst (λ s. Ordered s ys) (sym (append_assoc seen (x ∷ []) xs)) k))

-- what is seen after a term, and that it is seen then
pub record Grows (t : Term) (after seen : List Term) : Type 0 where
  pub more : List Term
  pub is : after ≡ seen ++ more
  pub ordered : Ordered seen more
  pub there : is_among after t ≡ true

grows-kept : (t u : Term) (after seen : List Term) → Grows t after seen → is_among seen u ≡ true → is_among after u ≡ true
grows-kept t u after seen g h = ap (λ s. is_among s u) g.is ∙ among-more seen g.more u h

grows-then : (t u : Term) (last after seen : List Term) → Grows t after seen → Grows u last after → Grows u last seen
grows-then t u last after seen g k = record {
  more = g.more ++ k.more;
  is = k.is ∙ ap (λ s. s ++ k.more) g.is ∙ append_assoc seen g.more k.more;
  ordered = ordered-append seen g.more k.more g.ordered (subst (λ s. Ordered s k.more) g.is k.ordered);
  there = k.there;
}

leave-grows : (t : Term) (seen : List Term) → IsTerm t → IsUnapplied t → OfParts (λ u. is_among seen u ≡ true) t → Grows t (leave t seen) seen
leave-grows t seen h u ps = elim (cases_Bool (is_among seen t)) [
  | inl b ↦ record {
    more = [];
    is = cond-true (is_among seen t) seen (seen ++ t ∷ []) b ∙ sym (append-nil seen);
    ordered = tt;
    there = ap (λ s. is_among s t) (cond-true (is_among seen t) seen (seen ++ t ∷ []) b) ∙ b;
  }
  | inr b ↦ record {
    more = t ∷ [];
    is = cond-false (is_among seen t) seen (seen ++ t ∷ []) b;
    ordered = (record { term = h; unapplied = u; new = b; parts = ps }, tt);
    there = ap (λ s. is_among s t) (cond-false (is_among seen t) seen (seen ++ t ∷ []) b) ∙ among-last seen t;
  }
]

pub walk-grows : (t : Term) (seen : List Term) → IsTerm t → IsUnapplied t → Grows t (walk t seen) seen
walk-grows (constant w n) seen h u = leave-grows (constant w n) seen h u tt
walk-grows (input i w) seen h u = leave-grows (input i w) seen h u tt
walk-grows (apply f args w) seen h u = absurd u
walk-grows (not_ a) seen h u =
    let g = walk-grows a seen h u in
    grows-then a (not_ a) (walk (not_ a) seen) (walk a seen) seen g (leave-grows (not_ a) (walk a seen) h u g.there)
walk-grows (binary op a b) seen h u =
    let g = walk-grows a seen h.0 u.0 in
    let k = walk-grows b (walk a seen) h.1 u.1 in
    let both = grows-then a b (walk b (walk a seen)) (walk a seen) seen g k in
    grows-then b (binary op a b) (walk (binary op a b) seen) (walk b (walk a seen)) seen both
    (leave-grows (binary op a b) (walk b (walk a seen)) h u (grows-kept b a (walk b (walk a seen)) (walk a seen) k g.there, k.there))
walk-grows (slice a i j) seen h u =
    let g = walk-grows a seen h.0 u in
    grows-then a (slice a i j) (walk (slice a i j) seen) (walk a seen) seen g (leave-grows (slice a i j) (walk a seen) h u g.there)
walk-grows (pick c a b) seen h u =
    let f = walk-grows c seen h.0 u.0 in
    let g = walk-grows a (walk c seen) h.1 u.1 in
    let k = walk-grows b (walk a (walk c seen)) h.2 u.2 in
    let two = grows-then c a (walk a (walk c seen)) (walk c seen) seen f g in
    let all = grows-then a b (walk b (walk a (walk c seen))) (walk a (walk c seen)) seen two k in
    let last = walk b (walk a (walk c seen)) in
    grows-then b (pick c a b) (walk (pick c a b) seen) last seen all
    (leave-grows (pick c a b) last h u (
      grows-kept b c last (walk a (walk c seen)) k (grows-kept a c (walk a (walk c seen)) (walk c seen) g f.there),
      grows-kept b a last (walk a (walk c seen)) k g.there,
      k.there,
    ))
