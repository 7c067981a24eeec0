-- Cited by the clauses of this crate: the terms that an assumption of a design stands for. It follows the section
-- "Assumptions as terms" of docs/CLAUSES.md.
use Rattle.std.specs.Prelude.{ℕ, suc, List, [], ◌∷◌}
use Rattle.cocoon_num.specs.Tree.{AssumeDecl, Design}
use Rattle.cocoon_types.specs.Design.{widths_of}
use Rattle.bv_terms.specs.TermTrees.{Term, constant, input}
use Rattle.obligation_laws.specs.TermOf.{bind_terms, term_context, term_of}

-- what it says where its parameters stand for these terms: it has no packet
abbrev pub assumption_term : Design → AssumeDecl → List Term → Term
assumption_term d a ts = term_of (term_context d) (bind_terms a.params ts) [] a.body

-- numbers of these widths
abbrev pub number_terms : (widths numbers : List ℕ) → List Term
number_terms (w ∷ ws) (n ∷ ns) = constant w n ∷ number_terms ws ns
number_terms _ _ = []

-- what it says of these numbers
abbrev pub value_term : Design → AssumeDecl → List ℕ → Term
value_term d a ns = assumption_term d a (number_terms (widths_of a.params) ns)

-- inputs of these widths, by their numbers from this one on
abbrev pub inputs_from : ℕ → (widths : List ℕ) → List Term
inputs_from i [] = []
inputs_from i (w ∷ ws) = input i w ∷ inputs_from (suc i) ws

-- what it says of its parameters, where these are the inputs from 0 on
abbrev pub own_term : Design → AssumeDecl → Term
own_term d a = assumption_term d a (inputs_from 0 (widths_of a.params))
