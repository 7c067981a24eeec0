-- Cited by the clauses of the laws of this crate: what the terms of assumptions say under definitions.
use Rattle.std.specs.Prelude.{◌≡◌, List, [], Some}
use Rattle.cocoon_num.specs.Tree.{AssumeDecl, Design}
use Rattle.cocoon_num.specs.Values.{number}
use Rattle.cocoon_types.specs.Tables.{Defs}
use Rattle.cocoon_types.specs.Val.{Env, bind, context, value}
use Rattle.bv_terms.specs.TermTrees.{Term}
use Rattle.bv_terms.specs.TermValues.{Inputs, term_number, term_value}
use Rattle.obligation_laws.specs.Shown.{functions_by, numbers_of}

-- the term is true under these definitions
abbrev pub IsTrueUnder : Design → Defs → Inputs → Term → Type 0
IsTrueUnder d defs ins t = term_value (functions_by d defs) ins t ≡ number 1 1

-- the term has the value of the assumption at the numbers of these terms
abbrev pub SaysOf : Design → Defs → Inputs → AssumeDecl → List Term → Term → Type 0
SaysOf d defs ins a ts t =
    (env : Env) → bind a.params (numbers_of (functions_by d defs) ins ts) ≡ Some env
    → term_value (functions_by d defs) ins t ≡ term_number (value (context d defs) env [] a.body)
