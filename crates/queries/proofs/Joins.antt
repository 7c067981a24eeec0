-- Terms of instances, and joined terms, one by one.
use Rattle.std.proofs.Common.{◌≡◌, ℕ, zero, suc, ◌+◌, ◌<◌, List, [], ◌∷◌, ◌++◌, drop, fold, get_or, length, All, sym, ap, subst, ◌∙◌, arith}
use Rattle.std.specs.List.{AllByRecursion}
use Rattle.std.proofs.lemmas.List.{append_assoc, map-append}
use Rattle.std.proofs.lemmas.List.Elements.{All-head, All-tail}
use Rattle.bv_terms.specs.Arenas.{term_at}
use Rattle.bv_terms.specs.TermTrees.{Term, binary, width}
use Rattle.bv_terms.specs.declared.node.Node.{Node}
use Rattle.bv_terms.specs.declared.node.TermOp.TheVariants.{And}
use Rattle.expr_terms.specs.Variables.{AreThere, Keeps, Makes, terms_at}
use Rattle.expr_terms.proofs.Lists.{from_any}
use Rattle.expr_terms.proofs.Making.{longer, terms_on}

-- what holds of all holds at each place
pub at_index : {A : Type 0} (P : A → Type 0) (xs : List A) (i : ℕ) (x : A) → AllByRecursion P xs → i < length xs → x ≡ get_or xs i x → P x
at_index P [] i x h l e = absurd (omega (arith, l))
at_index P (y ∷ xs) zero x h l e = subst P (sym e) h.0
at_index P (y ∷ xs) (suc i) x h l e = at_index P xs i x h.1 (omega (arith, l)) e

all_index : (n : ℕ) (xs : List ℕ) (i x : ℕ) → All (λ k. k < n) xs → i < length xs → get_or xs i x < n
all_index n [] i x h l = absurd (omega (arith, l))
all_index n (y ∷ xs) zero x h l = All-head (λ k. k < n) y xs h
all_index n (y ∷ xs) (suc i) x h l = all_index n xs i x (All-tail (λ k. k < n) y xs h) (omega (arith, l))

-- ---- one term more

pub one_more : (n m : List Node) (ids : List ℕ) (id : ℕ) (t : Term) (front ts : List Term) → Keeps n m → AreThere n ids → Makes m id t → terms_at n ids ≡ front ++ ts
    → terms_at m (ids ++ id ∷ []) ≡ front ++ (ts ++ t ∷ [])
one_more n m ids id t front ts keeps there made is =
    map-append (term_at m) ids (id ∷ []) ∙ (λ j. terms_on n m ids keeps there j ++ made.term j ∷ []) ∙ ap (λ us. us ++ t ∷ []) is ∙ append_assoc front ts (t ∷ [])

-- ---- joined terms

abbrev pub ands : Term → List Term → Term
ands t ts = fold (binary And) t ts

-- what is joined so far, with the terms that are left, is the whole
pub record Joining (first now : List Node) (start joined : ℕ) (others left : List ℕ) : Type 0 where
  pub kept : Keeps first now
  pub there : joined < length now
  pub wide : width (term_at now joined) ≡ 1
  pub whole : ands (term_at now joined) (terms_at first left) ≡ ands (term_at first start) (terms_at first others)

pub record Other (first now : List Node) (other : ℕ) : Type 0 where
  pub there : other < length now
  pub wide : width (term_at now other) ≡ 1
  pub same : term_at now other ≡ term_at first other

widths_at : (first : List Node) (ks : List ℕ) → AllByRecursion (λ t. width t ≡ 1) (terms_at first ks) → (j x : ℕ) → j < length ks → width (term_at first (get_or ks j x)) ≡ 1
widths_at first [] h j x m = absurd (omega (arith, m))
widths_at first (k ∷ ks) h zero x m = h.0
widths_at first (k ∷ ks) h (suc j) x m = widths_at first ks h.1 j x (omega (arith, m))

pub other_at : (first now : List Node) → Keeps first now → (others : List ℕ) → AreThere first others → AllByRecursion (λ t. width t ≡ 1) (terms_at first others) → (i x : ℕ) → i < length others → Other first now (get_or others i x)
other_at first now keeps others there wide i x l =
    let here = all_index (length first) others i x there l in
    let same = keeps.kept.terms (get_or others i x) here in
    record { there = longer first now keeps (get_or others i x) here; wide = ap width same ∙ widths_at first others wide i x l; same = same }

pub joined_more : (first now next : List Node) (start joined id : ℕ) (others : List ℕ) (i x : ℕ) → Joining first now start joined others (drop i others) → i < length others → Other first now (get_or others i x)
    → Keeps first next → Makes next id (binary And (term_at now joined) (term_at now (get_or others i x))) → Joining first next start id others (drop (i + 1) others)
joined_more first now next start joined id others i x j l o keeps made = record {
  kept = keeps;
  there = made.there;
  wide = ap width made.term ∙ j.wide;
  whole = ap (λ t. ands t (terms_at first (drop (i + 1) others))) (made.term ∙ ap (binary And (term_at now joined)) o.same)
      ∙ sym (ap (λ ks. ands (term_at now joined) (terms_at first ks)) (from_any others i x l)) ∙ j.whole;
}
