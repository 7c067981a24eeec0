-- What is kept of states, while an arena grows.
use Rattle.std.proofs.Common.{◌≡◌, ℕ, zero, suc, ◌<◌, ◌≤◌, List, [], ◌∷◌, ◌++◌, map, length, reverse, All, get_or, Option, Some, None, option_map, refl, sym, ap, subst, ◌∙◌, arith}
use Rattle.std.specs.Prelude.{slice_get}
use Rattle.std.proofs.lemmas.List.{reverse-append}
use Rattle.std.proofs.lemmas.List.Elements.{All-append}
use Rattle.std.proofs.lemmas.Option.{slice_get_within}
use Rattle.bv_terms.specs.declared.node.Node.{Node}
use Rattle.bv_terms.specs.declared.node.Node.TheVariants.{Input}
use Rattle.bv_terms.specs.Arenas.{KeepsTerms, term_at}
use Rattle.bv_terms.proofs.ReplaceFacts.{grown-length, keeps-both, keeps-none, node-kept}
use Rattle.expr_terms.specs.Variables.{AreThere, Makes, VariablesThere, terms_at, variable_of, variables_of}
use Rattle.expr_terms.specs.declared.variables.Variable.{Variable}
use Rattle.bv_terms.specs.TermTrees.{Term}
use Rattle.symbolic_runs.specs.Reading.{IsInput, IsThere, PlaceThere, input_of, place_of, state_of, states_of}
use Rattle.symbolic_runs.specs.declared.states.Choice.{Choice}
use Rattle.symbolic_runs.specs.declared.states.Place.{Place}
use Rattle.symbolic_runs.specs.declared.states.State.{State}

-- ---- all of a list

pub one_all : {A : Type 0} (P : A → Type 0) (x : A) → P x → All P (x ∷ [])
one_all P x p zero d l = p
one_all P x p (suc k) d l = absurd (omega (arith, l))

pub head_all : {A : Type 0} (P : A → Type 0) (x : A) (xs : List A) → All P (x ∷ xs) → P x
head_all P x xs all = all 0 x (omega arith)

pub tail_all : {A : Type 0} (P : A → Type 0) (x : A) (xs : List A) → All P (x ∷ xs) → All P xs
tail_all P x xs all = λ k d l. all (suc k) d (omega (arith, l))

pub map_all : {A : Type 0} (P Q : A → Type 0) (xs : List A) → ((x : A) → P x → Q x) → All P xs → All Q xs
map_all P Q xs f all = λ k d l. f (get_or xs k d) (all k d l)

pub same_map : {A B : Type 0} (f g : A → B) (P : A → Type 0) → ((x : A) → P x → f x ≡ g x) → (xs : List A) → All P xs → map f xs ≡ map g xs
same_map f g P h [] all = refl
same_map f g P h (x ∷ xs) all = λ j. h x (head_all P x xs all) j ∷ same_map f g P h xs (tail_all P x xs all) j

all_reverse : {A : Type 0} (P : A → Type 0) (xs : List A) → All P xs → All P (reverse xs)
all_reverse P [] all = all
all_reverse P (x ∷ xs) all =
    subst (All P) (sym (reverse-append (x ∷ []) xs))
    (All-append P (reverse xs) (x ∷ []) (all_reverse P xs (tail_all P x xs all)) (one_all P x (head_all P x xs all)))

-- ---- terms

pub longer : (a b : List Node) → KeepsTerms a b → (k : ℕ) → k < length a → k < length b
longer a b h k l = let m : length a ≤ length b = grown-length a b h in omega (arith, l, m)

pub makes_on : (a b : List Node) (id : ℕ) (t : Term) → KeepsTerms a b → Makes a id t → Makes b id t
makes_on a b id t h m = record { there = longer a b h id m.there; term = h.terms id m.there ∙ m.term }

pub there_on : (a b : List Node) (ids : List ℕ) → KeepsTerms a b → AreThere a ids → AreThere b ids
there_on a b ids h all = map_all (λ k. k < length a) (λ k. k < length b) ids (longer a b h) all

pub terms_on : (a b : List Node) (ids : List ℕ) → KeepsTerms a b → AreThere a ids → terms_at b ids ≡ terms_at a ids
terms_on a b ids h all = same_map (term_at b) (term_at a) (λ k. k < length a) h.terms ids all

pub variables_on : (a b : List Node) (vs : List Variable) → KeepsTerms a b → VariablesThere a vs → VariablesThere b vs
variables_on a b vs h all = map_all (λ (v : Variable). v.term < length a) (λ (v : Variable). v.term < length b) vs (λ v l. longer a b h v.term l) all

pub variables_kept : (a b : List Node) (vs : List Variable) → KeepsTerms a b → VariablesThere a vs → variables_of b vs ≡ variables_of a vs
variables_kept a b vs h all =
    same_map (variable_of b) (variable_of a) (λ (v : Variable). v.term < length a) (λ v l. ap (λ t. (v.name.now, t)) (h.terms v.term l)) (reverse vs)
    (all_reverse (λ (v : Variable). v.term < length a) vs all)

-- ---- states

input_on : (a b : List Node) (c : Choice) → KeepsTerms a b → IsInput a c → IsInput b c
input_on a b c h i = (i.0, node-kept a b i.0 h (slice_get_within a i.0 (Input c.input c.width) i.1) ∙ i.1)

pub inputs_on : (a b : List Node) (cs : List Choice) → KeepsTerms a b → All (IsInput a) cs → All (IsInput b) cs
inputs_on a b cs h all = map_all (IsInput a) (IsInput b) cs (λ c i. input_on a b c h i) all

place_on : (a b : List Node) (o : Option Place) → KeepsTerms a b → PlaceThere a o → PlaceThere b o
place_on a b None h t = tt
place_on a b (Some at) h t = there_on a b at.values.items h t

sent_on : (a b : List Node) (o : Option Place) → KeepsTerms a b → PlaceThere a o → option_map (place_of b) o ≡ option_map (place_of a) o
sent_on a b None h t = refl
sent_on a b (Some at) h t = λ j. Some (record { role = at.role.now; values = terms_on a b at.values.items h t j })

pub state_there : (a b : List Node) (s : State) → KeepsTerms a b → IsThere a s → IsThere b s
state_there a b s h t = record {
  variables = variables_on a b s.variables.items h t.variables;
  fields = there_on a b s.fields.items h t.fields;
  condition = longer a b h s.condition t.condition;
  choices = inputs_on a b s.choices.items h t.choices;
  sent = place_on a b s.sent h t.sent;
}

-- a state reads as it did
pub state_on : (a b : List Node) (s : State) → KeepsTerms a b → IsThere a s → state_of b s ≡ state_of a s
state_on a b s h t = λ j. record {
  vars = variables_kept a b s.variables.items h t.variables j;
  fields = terms_on a b s.fields.items h t.fields j;
  cond = h.terms s.condition t.condition j;
  choices = map input_of s.choices.items;
  way = s.way.items;
  sent = sent_on a b s.sent h t.sent j;
}

pub states_there : (a b : List Node) (ss : List State) → KeepsTerms a b → All (IsThere a) ss → All (IsThere b) ss
states_there a b ss h all = map_all (IsThere a) (IsThere b) ss (λ s t. state_there a b s h t) all

pub states_on : (a b : List Node) (ss : List State) → KeepsTerms a b → All (IsThere a) ss → states_of b ss ≡ states_of a ss
states_on a b ss h all = same_map (state_of b) (state_of a) (IsThere a) (λ s t. state_on a b s h t) ss all
