-- The values that a witness gives the inputs of a formula.
use Rattle.std.proofs.Common.{◌≡◌, inl, inr, ℕ, zero, suc, ◌<◌, ◌≤◌, ◌^◌, ℤ, Bool, true, List, [], ◌∷◌, fold, length, map, take, Option, Some, refl, sym, ap, subst, ◌∙◌, arith}
use Rattle.std.specs.Prelude.{nat_lt, option_map, slice_get, unwrap_or}
use Rattle.std.proofs.lemmas.Bool.{cases_Bool, ltb-true}
use Rattle.std.proofs.lemmas.List.{length-take-le}
use Rattle.std.proofs.lemmas.Option.{slice_get_within}
use Rattle.bit_blast.specs.Blasting.{InputRow}
use Rattle.bit_blast.specs.Readings.{number_read}
use Rattle.bv_terms.specs.Arenas.{IsArena}
use Rattle.bv_terms.specs.Inputs.{Mentions}
use Rattle.bv_terms.specs.Needed.{IsAmong}
use Rattle.bv_terms.specs.TermTrees.{Term, binary, input}
use Rattle.bv_terms.specs.TermValues.{Inputs}
use Rattle.bv_terms.specs.Walks.{is_among, walk}
use Rattle.bv_terms.specs.declared.node.TermOp.TheVariants.{And}
use Rattle.bv_terms.proofs.ArenaFacts.{inputs-few}
use Rattle.bv_terms.proofs.Subterms.{Each, in-walk, walk-has}
use Rattle.cnf_core.specs.declared.certificates.Instance.{Instance}
use Rattle.cnf_core.specs.Satisfying.{makes_true}
use Rattle.cocoon_num.specs.BitsOf.{value_of}
use Rattle.cocoon_num.specs.Tree.{Design}
use Rattle.cocoon_num.specs.Values.{FitsWidth}
use Rattle.cocoon_num.specs.declared.bits.Bits.{Bits}
use Rattle.query_laws.specs.Candidates.{MakeTrue, given}
use Rattle.query_laws.proofs.Candidate.{mentioned-there}
use Rattle.candidates.specs.Assigned.{assigned, row_value}
use Rattle.candidates.specs.Flat.{MakesFormulaTrue}
use Rattle.candidates.proofs.Inputs.{IsNode, has-nodes}
use Rattle.candidates.proofs.Lists.{at-there}
use Rattle.candidates.proofs.TrueQueries.{numbers-are}
use Rattle.bv_terms.specs.Values.{values_of}
use Rattle.query_laws.specs.OwnNames.{in_own_arena, inputs_of, own_name}
use Rattle.query_laws.specs.Queries.{added, asked}
use Rattle.query_laws.proofs.InputNumbers.{are_inputs, mentioned_in}
use Rattle.query_laws.proofs.Renaming.{from_zero, index_below, index_there, value_agrees}
use Rattle.sound_types.proofs.Members.{at_place}
use Rattle.bv_terms.specs.WithRows.{Tables}
use Rattle.bv_terms.specs.Copies.{AreRising, index_in}
use Rattle.rounds.specs.Steps.{IsOf, IsSolved}
use Rattle.rounds.specs.declared.asking.Satisfied.{Satisfied as Solved}
use Rattle.rounds.specs.declared.outcome.Witness.{Witness}

-- ---- lists

taken-there : {A : Type 0} (xs : List A) (n i : ℕ) → i < n → slice_get (take n xs) i ≡ slice_get xs i
taken-there xs zero i h = absurd (omega (arith, h))
taken-there [] (suc n) i h = refl
taken-there (x ∷ xs) (suc n) zero h = refl
taken-there (x ∷ xs) (suc n) (suc i) h = taken-there xs n i (omega (arith, h))

assigned-taken : (v : ℤ → Bool) (rows : List InputRow) (n i : ℕ) → i < n → assigned v (take n rows) i ≡ assigned v rows i
assigned-taken v rows n i h = ap (λ (o : Option InputRow). unwrap_or (option_map (λ (row : InputRow). number_read v row.bits) o) 0) (taken-there rows n i h)

-- of rising numbers each has one place
own-place : (xs : List ℕ) → AreRising xs → (m a : ℕ) → slice_get xs m ≡ Some a → index_in xs a ≡ m
own-place xs r m a e = elim (cases_Bool (nat_lt (index_in xs a) m)) [
  | inl l ↦ let q = r (index_in xs a) m a a (ltb-true (index_in xs a) m l) (index_there xs a (at_place xs m a e)) e in absurd (omega (arith, q))
  | inr l ↦ elim (cases_Bool (nat_lt m (index_in xs a))) [
    | inl k ↦ let q = r m (index_in xs a) a a (ltb-true m (index_in xs a) k) e (index_there xs a (at_place xs m a e)) in absurd (omega (arith, q))
    | inr k ↦ grind (arith, l, k)
  ]
]

as-far : (xs : List ℕ) → AreRising xs → (n : ℕ) → ((i : ℕ) → IsAmong xs i → index_in xs i < n) → length xs ≤ n
as-far [] r n h = omega arith
as-far (x ∷ xs) r n h =
    let at = at-there (x ∷ xs) (length xs) (omega arith) in
    let l = h at.0 (length xs, at.1) in
    let e = own-place (x ∷ xs) r (length xs) at.0 at.1 in
    omega (arith, l, e)

-- ---- truth at other inputs

same-true : (tables : Tables) (f g : Inputs) (t : Term) → ((i w : ℕ) → Mentions t i w → f i ≡ g i) → MakeTrue tables f t → MakeTrue tables g t
same-true tables f g t same h = record {
  fit = λ i w m. subst (FitsWidth w) (same i w m) (h.fit i w m);
  is_true = sym (value_agrees (λ u. is_among (walk t []) u ≡ true) (given tables) f g same t (walk-has t [])) ∙ h.is_true;
}

first-each : (P : Term → Type 0) (t : Term) (ts : List Term) → Each P (fold (binary And) t ts) → Each P t
first-each P t [] h = h
first-each P t (u ∷ us) h = (first-each P (binary And t u) us h).0

-- ---- what a witness is

module _ (d : Design) (level : ℕ) (formula : Term) (instances : List Instance) (m : Solved) (solved : IsSolved d level formula instances m) where
  module _ (arena : IsArena m.own.terms) where
    row-there : (i : ℕ) → IsAmong (inputs_of formula) i → own_name formula i < length m.inputs
    row-there i a =
        let s = solved.satisfied.flat in
        let own = in_own_arena formula in
        let w = (are_inputs formula).only i a in
        let n = in-walk (IsNode m.own.terms arena) own (input (own_name formula i) w.0)
        (first-each (IsNode m.own.terms arena) own (added d level formula instances) (has-nodes m.own.terms arena (asked d level formula instances) s.goal_)) (mentioned-there formula i w.0 w.1) in
        slice_get_within m.inputs (own_name formula i) _ (s.mapped.each_ (own_name formula i) n.0 w.0 n.1)

    pub all-there : length m.own.inputs ≤ length m.inputs
    all-there =
        subst (λ (xs : List ℕ). length xs ≤ length m.inputs) (sym solved.inputs)
        (as-far (inputs_of formula) (are_inputs formula).rising (length m.inputs) (λ i a. subst (λ j. j < length m.inputs) (from_zero (inputs_of formula) i) (row-there i a)))

    pub few : length m.inputs < 2 ^ 32
    few =
        let e = solved.satisfied.flat.mapped.count in
        let l = inputs-few m.own.terms in
        let k = arena.small in
        omega (arith, e, l, k)

  module _ (tables : Tables) (is : List Instance) (f : Witness) (witness : IsOf m tables is f) where
    pub as-many : length m.own.inputs ≤ length m.inputs → length f.values ≡ length f.inputs
    as-many h = same-length f.values (take (length m.own.inputs) m.inputs) witness.values ∙ length-take-le (length m.own.inputs) m.inputs h ∙ ap (λ (xs : List ℕ). length xs) (sym witness.inputs)
      where
        same-length : (bits : List Bits) (rows : List InputRow) → map value_of bits ≡ map (row_value (makes_true m.assignment)) rows → length bits ≡ length rows
        same-length [] [] e = refl
        same-length [] (row ∷ rows) e = absurd cc
        same-length (b ∷ bits) [] e = absurd cc
        same-length (b ∷ bits) (row ∷ rows) e = let rest : map value_of bits ≡ map (row_value (makes_true m.assignment)) rows = cc in ap suc (same-length bits rows rest)

    pub its-inputs : f.inputs ≡ inputs_of formula
    its-inputs = witness.inputs ∙ solved.inputs

    value-is : (i w : ℕ) → Mentions formula i w → assigned (makes_true m.assignment) m.inputs (own_name formula i) ≡ values_of f.inputs f.values i
    value-is i w k =
        let v = makes_true m.assignment in
        let xs = inputs_of formula in
        let n = length m.own.inputs in
        let below : own_name formula i < n = subst (λ (ys : List ℕ). own_name formula i < length ys) (sym solved.inputs)
        (subst (λ j. j < length xs) (sym (from_zero xs i)) (index_below xs i (mentioned_in formula i w k))) in
        sym (assigned-taken v m.inputs n (own_name formula i) below)
        ∙ sym (numbers-are v f.values (take n m.inputs) witness.values (own_name formula i))
        ∙ ap (λ ys. values_of ys f.values i) (sym its-inputs)

    pub formula-true : MakesFormulaTrue d m.own.terms m.own.applied m.inputs m.assignment tables → MakeTrue f.defs (values_of f.inputs f.values) formula
    formula-true makes =
        subst (λ ts. MakeTrue ts (values_of f.inputs f.values) formula) (sym witness.defs)
        (same-true tables (λ i. assigned (makes_true m.assignment) m.inputs (own_name formula i)) (values_of f.inputs f.values) formula value-is (makes level formula instances solved.satisfied))
