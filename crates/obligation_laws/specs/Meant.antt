-- Cited by the clauses of the laws of this crate: what a tree's leaf means under some functions, for given inputs.
use Rattle.std.specs.Prelude.{◌≡◌, ℕ, List, [], ◌∷◌, map}
use Rattle.cocoon_num.specs.Tree.{HeaderDecl}
use Rattle.cocoon_num.specs.Values.{FitsWidth, number}
use Rattle.refinement.specs.Ways.{Arrival}
use Rattle.bv_terms.specs.TermTrees.{Term}
use Rattle.bv_terms.specs.TermValues.{Functions, Inputs, term_value}
use Rattle.obligation_laws.specs.Shown.{numbers_of, packet_in}
use Rattle.obligation_laws.specs.States.{NewInput}
use Rattle.obligation_laws.specs.Leaves.{Leaf, end_fields, end_role, end_values}

-- the term is true
abbrev pub IsOne : Functions → Inputs → Term → Type 0
IsOne F ins t = term_value F ins t ≡ number 1 1

-- the numbers of some inputs
abbrev pub given : Inputs → List NewInput → List ℕ
given ins is = map (λ (i : NewInput). ins i.number) is

-- each fits its width
abbrev pub AllFit : Inputs → List NewInput → Type 0
AllFit ins [] = Unit {0}
AllFit ins (i ∷ is) = FitsWidth i.width (ins i.number) × AllFit ins is

-- a run that goes a leaf's way and ends as it says, with these choices left
abbrev pub arrives : Functions → Inputs → List HeaderDecl → Leaf → List ℕ → Arrival
arrives F ins headers leaf rest = record {
  to = record { role = end_role leaf.end; values = numbers_of F ins (end_values leaf.end) };
  sent = packet_in F ins headers (end_fields leaf.end);
  rest = rest;
  way = leaf.way;
}
