-- The loop over two lists of arguments.
use Rattle.std.proofs.Common.{◌≡◌, ℕ, ◌+◌, ◌<◌, ◌≤◌, List, [], ◌∷◌, fold, drop, length, map, slice_index, refl, ap, sym, ◌∙◌, arith, zero, suc}
use Rattle.std.specs.List.{AllByRecursion}
use Rattle.std.proofs.Math.Seq.{drop-cons, drop-length}
use Rattle.std.proofs.lemmas.List.{length-map}
use Rattle.bv_terms.specs.declared.node.Node.{Node}
use Rattle.bv_terms.specs.declared.node.TermOp.TheVariants.{And, Equal}
use Rattle.bv_terms.specs.TermTrees.{Term, constant, binary, width}
use Rattle.bv_terms.specs.Arenas.{args_of, term_at, width_at}
use Rattle.bv_terms.specs.Chains.{chain}
use Rattle.bv_terms.specs.Growth.{IsMade, OnlyGrows}
use Rattle.bv_terms.proofs.Choices.{below-at}
use Rattle.bv_terms.proofs.Growing.{grows-both, still-there}
use Rattle.flat_laws.specs.Flat.{equal_args}

pub same-count : (w : ℕ → ℕ) (ts us : List ℕ) → map w ts ≡ map w us → length us ≡ length ts
same-count w ts us e = sym (length-map us w) ∙ sym (ap length e) ∙ length-map ts w

index-widths : (w : ℕ → ℕ) (ts us : List ℕ) (i : ℕ) → map w ts ≡ map w us → i < length ts → w (slice_index ts i) ≡ w (slice_index us i)
index-widths w [] us i e l = absurd (omega (arith, l))
index-widths w (t ∷ ts) [] i e l = absurd cc
index-widths w (t ∷ ts) (u ∷ us) zero e l = cc
index-widths w (t ∷ ts) (u ∷ us) (suc i) e l = index-widths w ts us i (let d : map w ts ≡ map w us = cc in d) (omega (arith, l))

-- the first arguments are compared
pub record Comparing (old now : List Node) (ts us : List ℕ) (all at : ℕ) : Type 0 where
  pub grown : OnlyGrows old now
  pub within : at ≤ length ts
  pub there : all < length now
  pub narrow : width_at now all ≡ 1
  pub rest : fold (binary And) (term_at now all) (equal_args (args_of (term_at old) (drop at ts)) (args_of (term_at old) (drop at us)))
      ≡ chain And (constant 1 1) (equal_args (args_of (term_at old) ts) (args_of (term_at old) us))

first-rest : (f : ℕ → Term) (ts us : List ℕ) → 0 < length ts → length us ≡ length ts
    → fold (binary And) (binary Equal (f (slice_index ts 0)) (f (slice_index us 0))) (equal_args (args_of f (drop 1 ts)) (args_of f (drop 1 us)))
    ≡ chain And (constant 1 1) (equal_args (args_of f ts) (args_of f us))
first-rest f [] us p e = absurd (omega (arith, p))
first-rest f (t ∷ ts) [] p e = absurd (omega (arith, e))
first-rest f (t ∷ ts) (u ∷ us) p e = refl

module _ (old : List Node) (ts us : List ℕ) (ins : AllByRecursion (λ k. k < length old) ts) (others : AllByRecursion (λ k. k < length old) us) (widths : map (width_at old) ts ≡ map (width_at old) us) where
  counts : length us ≡ length ts
  counts = same-count (width_at old) ts us widths

  pub compare-first : (now : List Node) (all t u : ℕ) → 0 < length ts → t ≡ slice_index ts 0 → u ≡ slice_index us 0 → OnlyGrows old now
      → IsMade now (binary Equal (term_at old t) (term_at old u)) all → Comparing old now ts us all 1
  compare-first now all t u p t-is u-is g made = record {
    grown = g;
    within = omega arith;
    there = made.there;
    narrow = ap width made.term;
    rest =
        ap (λ x. fold (binary And) x (equal_args (args_of (term_at old) (drop 1 ts)) (args_of (term_at old) (drop 1 us))))
        (made.term ∙ ap (λ x. binary Equal (term_at old x) (term_at old u)) t-is ∙ ap (λ x. binary Equal (term_at old (slice_index ts 0)) (term_at old x)) u-is)
        ∙ first-rest (term_at old) ts us p counts;
  }

  pub no-args : length ts ≡ 0 → constant 1 1 ≡ chain And (constant 1 1) (equal_args (args_of (term_at old) ts) (args_of (term_at old) us))
  no-args e = empty ts e
    where
      empty : (xs : List ℕ) → length xs ≡ 0 → constant 1 1 ≡ chain And (constant 1 1) (equal_args (args_of (term_at old) xs) (args_of (term_at old) us))
      empty [] e = refl
      empty (x ∷ xs) e = absurd (omega (arith, e))

  module _ (now : List Node) (all at : ℕ) (h : Comparing old now ts us all at) (l : at < length ts) where
    abbrev t : ℕ
    t = slice_index ts at

    abbrev u : ℕ
    u = slice_index us at

    first-inside : t < length old
    first-inside = below-at (length old) ts at ins l

    second-inside : u < length old
    second-inside = below-at (length old) us at others (let e = counts in omega arith)

    pub first-there : t < length now
    first-there = still-there old now t h.grown first-inside

    pub second-there : u < length now
    second-there = still-there old now u h.grown second-inside

    pub same-widths : width_at now t ≡ width_at now u
    same-widths =
        ap width (h.grown.kept.terms t first-inside) ∙ index-widths (width_at old) ts us at widths l ∙ sym (ap width (h.grown.kept.terms u second-inside))

    pub compare-step : (then new : List Node) (next both : ℕ) → OnlyGrows now then → OnlyGrows then new → IsMade then (binary Equal (term_at now t) (term_at now u)) next
        → IsMade new (binary And (term_at then all) (term_at then next)) both → Comparing old new ts us both (at + 1)
    compare-step then new next both g k made joined =
        let more : suc at ≡ at + 1 = omega arith in
        let e = counts in
        let ts-is : drop at ts ≡ t ∷ drop (at + 1) ts = drop-cons ts at 0 l ∙ ap (λ n. t ∷ drop n ts) more in
        let us-is : drop at us ≡ u ∷ drop (at + 1) us = drop-cons us at 0 (omega arith) ∙ ap (λ n. u ∷ drop n us) more in
        let one : term_at then all ≡ term_at now all = g.kept.terms all h.there in
        let other : term_at then next ≡ binary Equal (term_at old t) (term_at old u)
        = made.term ∙ ap (λ x. binary Equal x (term_at now u)) (h.grown.kept.terms t first-inside) ∙ ap (binary Equal (term_at old t)) (h.grown.kept.terms u second-inside) in
        let is : term_at new both ≡ binary And (term_at now all) (binary Equal (term_at old t) (term_at old u))
        = joined.term ∙ ap (λ x. binary And x (term_at then next)) one ∙ ap (binary And (term_at now all)) other in
        record {
          grown = grows-both old now new h.grown (grows-both now then new g k);
          within = omega arith;
          there = joined.there;
          narrow = ap width is ∙ h.narrow;
          rest =
              ap (λ x. fold (binary And) x (equal_args (args_of (term_at old) (drop (at + 1) ts)) (args_of (term_at old) (drop (at + 1) us)))) is
              ∙ sym (ap (λ xs. fold (binary And) (term_at now all) (equal_args (args_of (term_at old) xs) (args_of (term_at old) (drop at us)))) ts-is
              ∙ ap (λ xs. fold (binary And) (term_at now all) (equal_args (args_of (term_at old) (t ∷ drop (at + 1) ts)) (args_of (term_at old) xs))) us-is)
              ∙ h.rest;
        }

  pub compare-last : (now : List Node) (all at : ℕ) → length ts ≤ at → Comparing old now ts us all at
      → IsMade now (chain And (constant 1 1) (equal_args (args_of (term_at old) ts) (args_of (term_at old) us))) all
  compare-last now all at l h =
      let none : drop at ts ≡ [] = (let w = h.within in let s : at ≡ length ts = omega arith in ap (λ n. drop n ts) s ∙ drop-length ts) in
      record {
        there = h.there;
        term = sym (ap (λ xs. fold (binary And) (term_at now all) (equal_args (args_of (term_at old) xs) (args_of (term_at old) (drop at us)))) none) ∙ h.rest;
      }
