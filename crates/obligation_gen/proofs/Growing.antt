-- What trees show is shown in every arena that grows from theirs.
use Rattle.std.proofs.Common.{ℕ, List, [], ◌∷◌, ◌++◌, ◌∙◌}
use Rattle.std.specs.List.{AllZip}
use Rattle.std.proofs.lemmas.Option.{slice_get_within}
use Rattle.cocoon_num.specs.Tree.{Design}
use Rattle.bv_terms.specs.declared.node.Node.{Node}
use Rattle.bv_terms.specs.declared.node.Node.TheVariants.{Input}
use Rattle.bv_terms.specs.Arenas.{KeepsTerms}
use Rattle.bv_terms.proofs.ReplaceFacts.{node-kept}
use Rattle.bv_terms.specs.TermTrees.{Term}
use Rattle.expr_terms.specs.Variables.{MakesAll}
use Rattle.obligation_laws.specs.States.{NewInput}
use Rattle.obligation_laws.specs.Leaves as laws
use Rattle.obligation_laws.specs.Leaves.{sent_to, inside}
use Rattle.symbolic_runs.proofs.Growing.{makes_on, map_all, terms_on, there_on}
use Rattle.obligation_gen.specs.declared.tree.End.{End}
use Rattle.obligation_gen.specs.declared.tree.End.TheVariants.{Sent, Inside}
use Rattle.obligation_gen.specs.declared.tree.Leaf.{Leaf}
use Rattle.obligation_gen.specs.ShownTrees.{HasInput, ShowsEnd, ShowsInputs, ShowsLeaf, ShowsLeaves, ShowsPlace}

pub makes_all_on : (a b : List Node) (ids : List ℕ) (ts : List Term) → KeepsTerms a b → MakesAll a ids ts → MakesAll b ids ts
makes_all_on a b ids ts h m = record { there = there_on a b ids h m.there; terms = terms_on a b ids h m.there ∙ m.terms }

input_on : (a b : List Node) (i : NewInput) → KeepsTerms a b → HasInput a i → HasInput b i
input_on a b i h k = (k.0, node-kept a b k.0 h (slice_get_within a k.0 (Input i.number i.width) k.1) ∙ k.1)

pub inputs_on : (a b : List Node) (ids : List ℕ) (is : List NewInput) → KeepsTerms a b → ShowsInputs a ids is → ShowsInputs b ids is
inputs_on a b ids is h s = record { numbers_ = s.numbers_; there = map_all (HasInput a) (HasInput b) is (λ i k. input_on a b i h k) s.there }

place_on : (d : Design) (a b : List Node) (role : ℕ) (values fields name : List ℕ) (at : laws.End) → KeepsTerms a b → ShowsPlace d a role values fields name at → ShowsPlace d b role values fields name at
place_on d a b role values fields name at h s = record {
  role_ = s.role_;
  values_ = makes_all_on a b values (laws.end_values at) h s.values_;
  fields_ = makes_all_on a b fields (laws.end_fields at) h s.fields_;
}

pub end_on : (d : Design) (a b : List Node) (e : End) (of : laws.End) → KeepsTerms a b → ShowsEnd d a e of → ShowsEnd d b e of
end_on d a b (Sent role values fields) (sent_to r vs fs) h s = place_on d a b role values fields r (sent_to r vs fs) h s
end_on d a b (Inside role values fields) (inside r vs fs) h s = place_on d a b role values fields r (inside r vs fs) h s
end_on d a b (Sent role values fields) (inside r vs fs) h s = absurd s
end_on d a b (Inside role values fields) (sent_to r vs fs) h s = absurd s

pub leaf_on : (d : Design) (a b : List Node) (l : Leaf) (of : laws.Leaf) → KeepsTerms a b → ShowsLeaf d a l of → ShowsLeaf d b l of
leaf_on d a b l of h s = record {
  cond = makes_on a b l.cond of.cond h s.cond;
  choices = inputs_on a b l.choices of.choices h s.choices;
  end = end_on d a b l.end of.end h s.end;
}

pub leaves_on : (d : Design) (a b : List Node) (ls : List Leaf) (of : List laws.Leaf) → KeepsTerms a b → ShowsLeaves d a ls of → ShowsLeaves d b ls of
leaves_on d a b [] [] h s = tt
leaves_on d a b [] (o ∷ of) h s = absurd s
leaves_on d a b (l ∷ ls) [] h s = absurd s
leaves_on d a b (l ∷ ls) (o ∷ of) h s = (leaf_on d a b l o h s.0, leaves_on d a b ls of h s.1)

pub zip_append : {A B : Type 0} (R : A → B → Type 0) (xs : List A) (vs : List B) (ys : List A) (ws : List B) → AllZip R xs vs → AllZip R ys ws → AllZip R (xs ++ ys) (vs ++ ws)
zip_append R [] [] ys ws h k = k
zip_append R [] (v ∷ vs) ys ws h k = absurd h
zip_append R (x ∷ xs) [] ys ws h k = absurd h
zip_append R (x ∷ xs) (v ∷ vs) ys ws h k = (h.0, zip_append R xs vs ys ws h.1 k)
