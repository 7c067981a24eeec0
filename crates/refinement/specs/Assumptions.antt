-- Cited by the clauses of the laws here: which definitions a refinement
-- speaks of. They are those of any text that fits the design, and of these the ones that meet the
-- assumptions of some levels. It follows the section "Refinement" of docs/LANGUAGE.md.
use Rattle.std.specs.Prelude.{◌≡◌, ℕ, true, List, [], Some, All}
use Rattle.cocoon_num.specs.Tree.{AssumeDecl, DefsText, Design}
use Rattle.cocoon_num.specs.Values.{truth}
use Rattle.cocoon_resolve.specs.Readers.{assumptions_to}
use Rattle.cocoon_types.specs.DefsRules.{DefsFit}
use Rattle.cocoon_types.specs.Tables.{Defs, defs_of}
use Rattle.cocoon_types.specs.Val.{Env, bind, context, value}
use Rattle.sound_types.specs.Literals.{EntriesFit}

-- the definitions of a text that fits the design, with any number of rows
pub record AreDefinitions (d : Design) (defs : Defs) : Type 0 where
  pub entries : DefsText
  pub fit : DefsFit d entries
  pub values_fit : EntriesFit entries
  pub are : defs ≡ defs_of d entries

-- the assumption is true at every tuple of values of its widths
abbrev pub IsMet : Design → Defs → AssumeDecl → Type 0
IsMet d defs a =
    (ns : List ℕ) (env : Env) → bind a.params ns ≡ Some env
    → value (context d defs) env [] a.body ≡ Some (truth true)

-- each assumption of levels 0 to this one is
abbrev pub Meets : (level : ℕ) → Design → Defs → Type 0
Meets level d defs = All (IsMet d defs) (assumptions_to level d)
