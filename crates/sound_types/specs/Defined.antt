-- Cited by the conditions of all laws here: a design that keeps the rules, with its definitions.
use Rattle.std.specs.Prelude.{List, Option}
use Rattle.cocoon_num.specs.Tree.{DefsText, Design}
use Rattle.cocoon_num.specs.declared.fun_table.FunTable.{FunTable}
use Rattle.cocoon_types.specs.DefsRules.{DefsFit}
use Rattle.cocoon_types.specs.Rules.{WellFormed}
use Rattle.runtime_defs.specs.Fitting.{FitsDesign}
use Rattle.sound_types.specs.Literals.{DesignLiteralsFit, EntriesFit}

-- the design keeps the rules, its literals fit, and the tables are definitions of it
pub record HasTables (d : Design) (tables : List (Option FunTable)) : Type 0 where
  pub rules : WellFormed d
  pub literals : DesignLiteralsFit d
  pub fits : FitsDesign d tables

-- likewise, and the text has definitions of it
pub record HasDefinitions (d : Design) (es : DefsText) : Type 0 where
  pub rules : WellFormed d
  pub literals : DesignLiteralsFit d
  pub fits : DefsFit d es
  pub values_fit : EntriesFit es
