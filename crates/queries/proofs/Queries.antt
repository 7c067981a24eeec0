-- A query, step by step.
use Rattle.std.proofs.Common.{◌≡◌, ℕ, ◌+◌, ◌<◌, List, ◌∷◌, ◌++◌, length, map, ap, subst, ◌∙◌, arith}
use Rattle.std.proofs.lemmas.List.{length-append}
use Rattle.cocoon_num.specs.Tree.{Design}
use Rattle.bit_blast.specs.Goals.{IsGoal}
use Rattle.bv_terms.specs.Arenas.{IsArena, KeepsTerms, inputs_in, term_at}
use Rattle.bv_terms.specs.Inputs.{renamed}
use Rattle.bv_terms.specs.TermTrees.{IsTerm, Term, constant}
use Rattle.bv_terms.specs.declared.node.Node.{Node}
use Rattle.bv_terms.specs.declared.node.TermOp.TheVariants.{And}
use Rattle.cnf_core.specs.declared.certificates.Instance.{Instance}
use Rattle.expr_terms.specs.Variables.{Keeps, Makes, MakesAll, terms_at}
use Rattle.expr_terms.proofs.Making.{makes_on}
use Rattle.flat_goals.specs.Applied.{AreApplied}
use Rattle.flat_laws.specs.Flat.{flattened}
use Rattle.query_laws.specs.Tuples.{pattern_terms}
use Rattle.bv_terms.specs.Chains.{chain}
use Rattle.bv_terms.specs.Copies.{new_name}
use Rattle.query_laws.specs.OwnNames.{in_own_arena, input_count, inputs_of}
use Rattle.query_laws.specs.Queries.{added, asked, instance_term, query}
use Rattle.queries.specs.Asked.{IsQuery}
use Rattle.queries.specs.declared.asking.OwnGoal.{OwnGoal}

-- the copy of a formula in an arena without terms, whose inputs are counted
pub record IsCopy (formula : Term) (nodes : List Node) (id : ℕ) : Type 0 where
  pub made : Makes nodes id (in_own_arena formula)
  pub inputs : inputs_in nodes ≡ input_count formula

pub copied : (formula : Term) (nodes : List Node) (id first : ℕ) (inputs : List ℕ) → first ≡ 0 → inputs ≡ inputs_of formula → id < length nodes → term_at nodes id ≡ renamed (new_name first inputs) formula
    → inputs_in nodes ≡ first + length inputs → IsCopy formula nodes id
copied formula nodes id first inputs none same there term count = record {
  made = record { there = there; term = term ∙ (λ k. renamed (new_name (none k) (same k)) formula) };
  inputs = (let e : length inputs ≡ length (inputs_of formula) = ap (λ (xs : List ℕ). length xs) same in omega (arith, count, none, e));
}

pub copy_on : (formula : Term) (a b : List Node) (id : ℕ) → Keeps a b → IsCopy formula a id → IsCopy formula b id
copy_on formula a b id keeps h = record { made = makes_on a b id (in_own_arena formula) keeps h.made; inputs = keeps.inputs ∙ h.inputs }

-- and what is added behind it
pub record IsAdded (d : Design) (level : ℕ) (formula : Term) (instances : List Instance) (nodes : List Node) (first : ℕ) (others : List ℕ) : Type 0 where
  pub copy : IsCopy formula nodes first
  pub others_ : MakesAll nodes others (added d level formula instances)

pub all_added : (d : Design) (level : ℕ) (formula : Term) (instances : List Instance) (a b c : List Node) (first : ℕ) (patterns others : List ℕ) → IsCopy formula a first → Keeps a b → MakesAll b patterns (pattern_terms d level (term_at a first))
    → Keeps b c → MakesAll c others (terms_at b patterns ++ map (instance_term d) instances) → IsAdded d level formula instances c first others
all_added d level formula instances a b c first patterns others copy keeps made keeps' made' = record {
  copy = copy_on formula b c first keeps' (copy_on formula a b first keeps copy);
  others_ = record { there = made'.there; terms = made'.terms ∙ ap (λ ts. ts ++ map (instance_term d) instances) (made.terms ∙ ap (pattern_terms d level) copy.made.term) };
}

-- what is asked, as one term
pub record IsAsked (d : Design) (level : ℕ) (formula : Term) (instances : List Instance) (nodes : List Node) (id : ℕ) : Type 0 where
  pub made : Makes nodes id (asked d level formula instances)
  pub inputs : inputs_in nodes ≡ input_count formula

pub all_asked : (d : Design) (level : ℕ) (formula : Term) (instances : List Instance) (a b : List Node) (first id : ℕ) (others : List ℕ) → IsAdded d level formula instances a first others → Keeps a b
    → Makes b id (chain And (constant 1 1) (term_at a first ∷ terms_at a others)) → IsAsked d level formula instances b id
all_asked d level formula instances a b first id others h keeps made = record {
  made = record { there = made.there; term = made.term ∙ (λ k. chain And (constant 1 1) (h.copy.made.term k ∷ h.others_.terms k)) };
  inputs = keeps.inputs ∙ h.copy.inputs;
}

pub asked_term : (d : Design) (level : ℕ) (formula : Term) (instances : List Instance) (nodes : List Node) (id : ℕ) → IsArena nodes → IsAsked d level formula instances nodes id → IsTerm (asked d level formula instances)
asked_term d level formula instances nodes id arena h = subst IsTerm h.made.term (arena.terms id h.made.there)

-- what is asked, flattened
pub is_query : (d : Design) (level : ℕ) (formula : Term) (instances : List Instance) (a : List Node) (id : ℕ) (own : OwnGoal) → IsAsked d level formula instances a id → IsTerm (asked d level formula instances)
    → IsGoal (query d level formula instances) → own.inputs ≡ inputs_of formula → KeepsTerms a own.terms → own.goal < length own.terms → term_at own.terms own.goal ≡ flattened (term_at a id) (inputs_in a)
    → AreApplied own.terms (term_at a id) (inputs_in a) own.applied → IsQuery d level formula instances own
is_query d level formula instances a id own h term goal inputs kept there is applied = record {
  there = there;
  term = is ∙ (λ k. flattened (h.made.term k) (h.inputs k));
  goal_ = goal;
  asked_ = term;
  asked_there = (id, record { there = longer kept.grown; term = kept.terms id h.made.there ∙ h.made.term });
  inputs = inputs;
  applied = subst (λ n. AreApplied own.terms (asked d level formula instances) n own.applied) h.inputs (subst (λ t. AreApplied own.terms t (inputs_in a) own.applied) h.made.term applied);
}
  where
    longer : (more : List Node) × (own.terms ≡ a ++ more) → id < length own.terms
    longer g = let e = ap length g.1 ∙ length-append a g.0 in let l = h.made.there in omega (arith, e, l)
