-- Cited by the clauses of the laws of this crate: formulas that are true under the definitions of tables, and assumptions that are
-- false.
use Rattle.std.specs.Prelude.{◌≡◌, ℕ, false, List, [], Some}
use Rattle.bv_terms.specs.TermTrees.{Term}
use Rattle.bv_terms.specs.TermValues.{Inputs, term_value}
use Rattle.cocoon_num.specs.Tree.{AssumeDecl, DefsText, Design}
use Rattle.cocoon_num.specs.Values.{number, truth}
use Rattle.cocoon_types.specs.Tables.{defs_of}
use Rattle.cocoon_types.specs.Val.{Env, bind, context, value}
use Rattle.obligation_laws.specs.Shown.{functions_by}
use Rattle.runtime_defs.specs.Stands.{Stands}
use Rattle.sound_types.specs.Defined.{HasDefinitions}
use Rattle.bv_terms.specs.WithRows.{Tables}

-- under the definitions of each text for which the tables stand the formula is true at these inputs
abbrev pub IsMeantTrue : Design → Tables → Inputs → Term → Type 0
IsMeantTrue d tables ins t =
    (es : DefsText) → HasDefinitions d es → Stands d tables (defs_of d es)
    → term_value (functions_by d (defs_of d es)) ins t ≡ number 1 1

-- under the definitions of each text for which the tables stand the assumption is false at these numbers, which fit it
abbrev pub IsBroken : Design → Tables → AssumeDecl → List ℕ → Type 0
IsBroken d tables a ns =
    (es : DefsText) → HasDefinitions d es → Stands d tables (defs_of d es)
    → (env : Env) × (bind a.params ns ≡ Some env) × (value (context d (defs_of d es)) env [] a.body ≡ Some (truth false))
