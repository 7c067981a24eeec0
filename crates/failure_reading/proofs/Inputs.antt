-- Numbers that fit a term fit all inputs, if those of all others are 0.
use Rattle.std.proofs.Common.{◌≡◌, inl, inr, ℕ, ◌<◌, List, [], ◌∷◌, length, All, refl, sym, subst, ◌∙◌}
use Rattle.std.specs.List.{AllByRecursion}
use Rattle.std.proofs.lemmas.Bool.{cases_Bool, false≢true}
use Rattle.std.proofs.lemmas.List.Elements.{recursion_from_All}
use Rattle.std.proofs.lemmas.Nat.{pow_pos}
use Rattle.bv_terms.specs.Arenas.{IsArena, term_at}
use Rattle.bv_terms.specs.Inputs.{InputsFit, Mentions}
use Rattle.bv_terms.specs.TermTrees.{Term, input}
use Rattle.bv_terms.specs.TermValues.{Inputs}
use Rattle.bv_terms.specs.Walks.{is_among, walk}
use Rattle.bv_terms.specs.declared.node.Node.{Node}
use Rattle.cocoon_num.specs.Values.{FitsWidth}
use Rattle.obligation_gen.specs.ShownTrees.{HasInput}
use Rattle.sound_types.proofs.Members.{In}
use Rattle.obligation_laws.specs.Meant.{AllFit}
use Rattle.obligation_laws.specs.States.{NewInput}
use Rattle.failure_reading.specs.Witnesses.{OthersAreZero}
use Rattle.failure_reading.proofs.Arenas.{is_node, one_width}

-- ---- lists

each_of : {A : Type 0} (P : A → Type 0) (xs : List A) → AllByRecursion P xs → (x : A) → In x xs → P x
each_of P [] h x i = absurd i
each_of P (y ∷ ys) h x i = elim i [ inl e ↦ subst P (sym e) h.0 | inr k ↦ each_of P ys h.1 x k ]

pub member : {A : Type 0} (P : A → Type 0) (xs : List A) → All P xs → (x : A) → In x xs → P x
member P xs h = each_of P xs (recursion_from_All P xs h)

module _ (nodes : List Node) (arena : IsArena nodes) (k : ℕ) (stands : k < length nodes) (ins : Inputs) (fit : InputsFit (term_at nodes k) ins)
    (others : OthersAreZero (term_at nodes k) ins) where
  abbrev t : Term
  t = term_at nodes k

  -- an input of the term with its number has its width
  its_width : (i : NewInput) → HasInput nodes i → (w : ℕ) → Mentions t i.number w → w ≡ i.width
  its_width i here w m = let there = is_node nodes arena k stands i.number w m in one_width nodes arena there.0 here.0 i.number w i.width there.1 here.1

  pub fits : (i : NewInput) → HasInput nodes i → FitsWidth i.width (ins i.number)
  fits i here = elim (cases_Bool (is_among (walk t []) (input i.number i.width))) [
    | inl e ↦ fit i.number i.width e
    | inr e ↦
        let none = others i.number (λ w m. false≢true (sym e ∙ subst (λ x. Mentions t i.number x) (its_width i here w m) m)) in
        subst (FitsWidth i.width) (sym none) (pow_pos i.width)
  ]

  pub all_fit : (is : List NewInput) → ((i : NewInput) → In i is → HasInput nodes i) → AllFit ins is
  all_fit [] here = tt
  all_fit (i ∷ is) here = (fits i (here i (inl refl)), all_fit is (λ j m. here j (inr m)))
