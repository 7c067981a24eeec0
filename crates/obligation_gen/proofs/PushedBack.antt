-- What stands for inputs, one after another.
use Rattle.std.proofs.Common.{◌≡◌, ℕ, zero, suc, ◌+◌, ◌<◌, ◌≤◌, List, [], ◌∷◌, ◌++◌, take, map, length, get_or, All, Some, refl, sym, ap, subst, ◌∙◌, arith}
use Rattle.std.specs.Prelude.{slice_get}
use Rattle.std.proofs.lemmas.List.{append_assoc, append-nil, map-append}
use Rattle.cocoon_num.specs.Tree.{Design}
use Rattle.bv_terms.specs.declared.node.Node.{Node}
use Rattle.bv_terms.specs.Arenas.{IsArena, IsInputTerm, KeepsTerms}
use Rattle.bv_terms.specs.TermTrees.{Term}
use Rattle.expr_terms.specs.Variables.{Keeps, Makes, MakesAll}
use Rattle.expr_terms.proofs.Making.{keeps_on}
use Rattle.obligation_gen.specs.ShownTrees.{HasInput, ShowsEnd, ShowsInputs}
use Rattle.obligation_gen.specs.declared.tree.End.{End}
use Rattle.obligation_gen.proofs.Growing.{end_on, inputs_on, makes_all_on}
use Rattle.obligation_laws.specs.Formulas.{read_back}
use Rattle.obligation_laws.specs.Leaves as laws
use Rattle.obligation_laws.specs.States.{NewInput, input_term}
use Rattle.symbolic_runs.proofs.Growing.{head_all, one_all, tail_all}
use Rattle.obligation_gen.proofs.InputTerms.{makes_both, own_term}

-- the input of a number in a list
pub record InputAt (nodes : List Node) (is : List NewInput) (k number : ℕ) : Type 0 where
  pub input : NewInput
  pub more : take (k + 1) is ≡ take k is ++ input ∷ []
  pub numbered : input.number ≡ number
  pub there : HasInput nodes input

input_in : (nodes : List Node) (numbers : List ℕ) (is : List NewInput) (k : ℕ) → numbers ≡ map (λ (i : NewInput). i.number) is → All (HasInput nodes) is → k < length numbers → InputAt nodes is k (get_or numbers k 0)
input_in nodes [] is k e all l = absurd (omega (arith, l))
input_in nodes (m ∷ ms) [] k e all l = absurd (cc)
input_in nodes (m ∷ ms) (i ∷ is) zero e all l =
    let head : m ≡ i.number = cc in
    record { input = i; more = refl; numbered = sym head; there = head_all (HasInput nodes) i is all }
input_in nodes (m ∷ ms) (i ∷ is) (suc k) e all l =
    let rest : ms ≡ map (λ (i : NewInput). i.number) is = cc in
    let r = input_in nodes ms is k rest (tail_all (HasInput nodes) i is all) (omega (arith, l)) in
    let next : suc k + 1 ≡ suc (k + 1) = omega arith in
    record { input = r.input; more = ap (λ n. take n (i ∷ is)) next ∙ ap (λ xs. i ∷ xs) r.more; numbered = r.numbered; there = r.there }

pub input_at : (nodes : List Node) (numbers : List ℕ) (is : List NewInput) (k : ℕ) → ShowsInputs nodes numbers is → k < length numbers → InputAt nodes is k (get_or numbers k 0)
input_at nodes numbers is k h l = input_in nodes numbers is k h.numbers_ h.there l

pub all_taken : (nodes : List Node) (numbers : List ℕ) (is : List NewInput) → ShowsInputs nodes numbers is → (k : ℕ) → length numbers ≤ k → take k is ≡ is
all_taken nodes numbers is h k e = by numbers is h.numbers_ k e
  where
    by : (ms : List ℕ) (js : List NewInput) → ms ≡ map (λ (i : NewInput). i.number) js → (n : ℕ) → length ms ≤ n → take n js ≡ js
    by [] [] q zero f = refl
    by [] [] q (suc n) f = refl
    by [] (j ∷ js) q n f = absurd (cc)
    by (m ∷ ms) [] q n f = absurd (cc)
    by (m ∷ ms) (j ∷ js) q zero f = absurd (omega (arith, f))
    by (m ∷ ms) (j ∷ js) q (suc n) f = let rest : ms ≡ map (λ (i : NewInput). i.number) js = cc in ap (λ xs. j ∷ xs) (by ms js rest n (omega (arith, f)))

-- one term more
pub one_made : (nodes : List Node) (ids : List ℕ) (ts : List Term) (f : NewInput → Term) (is : List NewInput) (k id : ℕ) (i : NewInput) → take (k + 1) is ≡ take k is ++ i ∷ []
    → MakesAll nodes ids (ts ++ map f (take k is)) → Makes nodes id (f i) → MakesAll nodes (ids ++ id ∷ []) (ts ++ map f (take (k + 1) is))
one_made nodes ids ts f is k id i more h m =
    subst (MakesAll nodes (ids ++ id ∷ []))
    (append_assoc ts (map f (take k is)) (f i ∷ []) ∙ ap (λ us. ts ++ us) (sym (map-append f (take k is) (i ∷ []))) ∙ ap (λ xs. ts ++ map f xs) (sym more))
    (makes_both nodes ids (id ∷ []) (ts ++ map f (take k is)) (f i ∷ []) h (record { there = one_all (λ x. x < length nodes) id m.there; terms = λ j. m.term j ∷ [] }))

-- ---- choices

-- what stands for the first choices was added
pub record Pushed (start now : List Node) (choices : List ℕ) (old end : End) (before ids : List ℕ) (k : ℕ) : Type 0 where
  pub kept : Keeps start now
  pub made : (d : Design) (is : List NewInput) (o e : laws.End) (ts : List Term) → ShowsInputs start choices is → ShowsEnd d start old o → ShowsEnd d start end e → MakesAll start before ts
      → MakesAll now ids (ts ++ map (read_back o e) (take k is))

pub none_pushed : (start : List Node) (choices : List ℕ) (old end : End) (before : List ℕ) → Keeps start start → Pushed start start choices old end before before 0
none_pushed start choices old end before k = record { kept = k; made = λ d is o e ts h s t m. subst (MakesAll start before) (sym (append-nil ts)) m }

pub one_pushed : (start now new : List Node) (choices : List ℕ) (old end : End) (before ids : List ℕ) (k id : ℕ) → Pushed start now choices old end before ids k
    → k < length choices → Keeps now new
    → ((d : Design) (i : NewInput) (o e : laws.End) → i.number ≡ get_or choices k 0 → HasInput now i → ShowsEnd d now old o → ShowsEnd d now end e → Makes new id (read_back o e i))
    → Pushed start new choices old end before (ids ++ id ∷ []) (k + 1)
one_pushed start now new choices old end before ids k id p l step made = record {
  kept = keeps_on start now new p.kept step;
  made = λ d is o e ts h s t m.
      let here = input_at now choices is k (inputs_on start now choices is p.kept.kept h) l in
      one_made new ids ts (read_back o e) is k id here.input here.more (makes_all_on now new ids (ts ++ map (read_back o e) (take k is)) step.kept (p.made d is o e ts h s t m))
      (made d here.input o e here.numbered here.there (end_on d start now old o p.kept.kept s) (end_on d start now end e p.kept.kept t));
}
