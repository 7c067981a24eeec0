-- The clauses of `lower` cite it, and so does the command. Of which definitions a network is made.
use Rattle.cocoon_num.specs.Tree.{Design, DefsText}
use Rattle.cocoon_types.specs.Tables.{defs_of}
use Rattle.runtime_defs.specs.Bound.{IsBound}
use Rattle.runtime_defs.specs.Places.{Places}
use Rattle.runtime_defs.specs.Stands.{Stands}
use Rattle.sound_types.specs.Literals.{EntriesFit}

-- the tables are those of the definitions of this text, whose values fit their widths
pub record AreOfText (design : Design) (defs : DefsText) (tables : Places) : Type 0 where
  pub bound : IsBound design defs tables
  pub stand : Stands design tables (defs_of design defs)
  pub fit : EntriesFit defs
