-- Chains of equations, and what they are made of in an arena that grows.
use Rattle.std.proofs.Common.{◌≡◌, ℕ, zero, suc, ◌+◌, ◌<◌, ◌≤◌, List, [], ◌∷◌, ◌++◌, drop, map, length, get_or, All, refl, sym, ap, subst, ◌∙◌, arith}
use Rattle.std.specs.List.{AllZip}
use Rattle.std.proofs.Math.ListN.{drop_of_length-le}
use Rattle.std.proofs.Math.Seq.{drop-cons}
use Rattle.bv_terms.specs.declared.node.Node.{Node}
use Rattle.bv_terms.specs.declared.node.TermOp.TheVariants as ops
use Rattle.bv_terms.specs.Arenas.{IsArena, KeepsTerms, inputs_in, term_at, width_at}
use Rattle.bv_terms.specs.Replacements as formulas
use Rattle.bv_terms.specs.Replacements.{HasWidthOf, beside, replaced}
use Rattle.bv_terms.specs.TermTrees as term
use Rattle.bv_terms.specs.TermTrees.{Term, width}
use Rattle.obligation_laws.specs.Shown.{HasWidth}
use Rattle.expr_terms.specs.Variables.{AreThere, Keeps, Makes, terms_at}
use Rattle.expr_terms.proofs.Making.{keeps_on}
use Rattle.obligation_laws.specs.FormulaForms.{SameWidths}
use Rattle.obligation_gen.proofs.Growing.{inputs_on}
use Rattle.obligation_laws.specs.Formulas.{chain, equals}
use Rattle.obligation_laws.specs.States.{NewInput}
use Rattle.symbolic_runs.proofs.Growing.{head_all, longer, tail_all, terms_on, there_on}
use Rattle.obligation_gen.specs.Replacing.{StandFor, replacing_in}
use Rattle.obligation_gen.specs.declared.replacing.Replacing.{Replacing}

-- ---- chains

-- a chain is as wide as its first term
pub chain_width : (t : Term) (us : List Term) → width (chain ops.And t us) ≡ width t
chain_width t [] = refl
chain_width t (u ∷ us) = chain_width (term.binary ops.And t u) us

pub chain_both : (t : Term) (us vs : List Term) → chain ops.And t (us ++ vs) ≡ chain ops.And (chain ops.And t us) vs
chain_both t [] vs = refl
chain_both t (u ∷ us) vs = chain_both (term.binary ops.And t u) us vs

pub ors_width : (t : Term) (us : List Term) → width (chain ops.Or t us) ≡ width t
ors_width t [] = refl
ors_width t (u ∷ us) = ors_width (term.binary ops.Or t u) us

-- ---- terms that stand for inputs

pub stand_on : (a b : List Node) (r : Replacing) → KeepsTerms a b → StandFor a r → StandFor b r
stand_on a b r h s = record {
  inputs = s.inputs;
  are = inputs_on a b r.inputs.items s.inputs h s.are;
  there = there_on a b r.terms.items h s.there;
  wide = subst (AllZip (λ (i : NewInput) t. HasWidth i.width t) s.inputs) (sym (terms_on a b r.terms.items h s.there)) s.wide;
}

pub replacing_on : (a b : List Node) (r : Replacing) → KeepsTerms a b → StandFor a r → replacing_in b r ≡ replacing_in a r
replacing_on a b r h s = ap (beside r.inputs.items) (terms_on a b r.terms.items h s.there)

-- ---- equations, one after another

-- the first equations are joined to the condition
pub record Joined (start now : List Node) (r : Replacing) (condition all at : ℕ) (old sent : List ℕ) : Type 0 where
  pub kept : Keeps start now
  pub there : all < length now
  pub truth : width_at now all ≡ 1
  pub rest : chain ops.And (term_at now all) (equals (replacing_in start r) (terms_at start (drop at old)) (terms_at start (drop at sent)))
      ≡ chain ops.And (term_at start condition) (equals (replacing_in start r) (terms_at start old) (terms_at start sent))

pub same_count : (r : formulas.Replacing) (f : ℕ → Term) (old sent : List ℕ) → SameWidths r (map f old) (map f sent) → length sent ≡ length old
same_count r f [] [] h = refl
same_count r f [] (u ∷ sent) h = absurd h
same_count r f (t ∷ old) [] h = absurd h
same_count r f (t ∷ old) (u ∷ sent) h = ap suc (same_count r f old sent h.1)

pub width_there : (r : formulas.Replacing) (f : ℕ → Term) (old sent : List ℕ) (i d e : ℕ) → SameWidths r (map f old) (map f sent) → i < length old
    → width (replaced r (f (get_or old i d))) ≡ width (f (get_or sent i e))
width_there r f [] sent i d e h l = absurd (omega (arith, l))
width_there r f (t ∷ old) [] i d e h l = absurd h
width_there r f (t ∷ old) (u ∷ sent) zero d e h l = h.0
width_there r f (t ∷ old) (u ∷ sent) (suc i) d e h l = width_there r f old sent i d e h.1 (omega (arith, l))

-- one equation more
pub one_joined : (start now mid new : List Node) (r : Replacing) (condition all at : ℕ) (old sent : List ℕ) (t u equal both : ℕ)
    → Joined start now r condition all at old sent → StandFor start r → AreThere start old → AreThere start sent → at < length old → at < length sent
    → t ≡ get_or old at 0 → u ≡ get_or sent at 0
    → Keeps now mid → Makes mid equal (term.binary ops.Equal (replaced (replacing_in now r) (term_at now t)) (term_at now u))
    → Keeps mid new → Makes new both (term.binary ops.And (term_at mid all) (term_at mid equal))
    → Joined start new r condition both (at + 1) old sent
one_joined start now mid new r condition all at old sent t u equal both j stand olds sents l m t_is u_is first made second joined =
    let kept = keeps_on start now mid j.kept first in
    let next : suc at ≡ at + 1 = omega arith in
    let old_is : drop at old ≡ t ∷ drop (at + 1) old = drop-cons old at 0 l ∙ (λ k. sym t_is k ∷ drop (next k) old) in
    let sent_is : drop at sent ≡ u ∷ drop (at + 1) sent = drop-cons sent at 0 m ∙ (λ k. sym u_is k ∷ drop (next k) sent) in
    let t_there : t < length start = subst (λ x. x < length start) (sym t_is) (olds at 0 l) in
    let u_there : u < length start = subst (λ x. x < length start) (sym u_is) (sents at 0 m) in
    let equal_is : term_at mid equal ≡ term.binary ops.Equal (replaced (replacing_in start r) (term_at start t)) (term_at start u) =
    made.term ∙ (λ k. term.binary ops.Equal (replaced (replacing_on start now r j.kept.kept stand k) (j.kept.kept.terms t t_there k)) (j.kept.kept.terms u u_there k)) in
    let all_is : term_at mid all ≡ term_at now all = first.kept.terms all j.there in
    record {
      kept = keeps_on start mid new kept second;
      there = joined.there;
      truth = ap width joined.term ∙ ap width all_is ∙ j.truth;
      rest =
          let r' = replacing_in start r in
          let es = equals r' (terms_at start (drop (at + 1) old)) (terms_at start (drop (at + 1) sent)) in
          ap (λ x. chain ops.And x es) (joined.term ∙ (λ k. term.binary ops.And (all_is k) (equal_is k)))
          ∙ (λ k. chain ops.And (term_at now all) (equals r' (terms_at start (sym old_is k)) (terms_at start (sym sent_is k))))
          ∙ j.rest;
    }

pub none_joined : (start : List Node) (r : Replacing) (condition : ℕ) (old sent : List ℕ) → condition < length start → width_at start condition ≡ 1 → Keeps start start → Joined start start r condition condition 0 old sent
none_joined start r condition old sent l e k = record { kept = k; there = l; truth = e; rest = refl }

pub all_joined : (start now : List Node) (r : Replacing) (condition all at : ℕ) (old sent : List ℕ) → Joined start now r condition all at old sent → length old ≤ at
    → Makes now all (chain ops.And (term_at start condition) (equals (replacing_in start r) (terms_at start old) (terms_at start sent)))
all_joined start now r condition all at old sent j e = record {
  there = j.there;
  term =
      sym (ap (λ (xs : List ℕ). chain ops.And (term_at now all) (equals (replacing_in start r) (terms_at start xs) (terms_at start (drop at sent)))) (drop_of_length-le old e))
      ∙ j.rest;
}
