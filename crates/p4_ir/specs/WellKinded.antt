-- Which programs are well kinded: they keep the kind rules, and no token of their text is too deep. The clauses of `emit`
-- and of `is_well_kinded` cite it.
use Rattle.std.specs.Prelude.{◌&&◌, Bool, IsTrue}
use Rattle.cocoon_num.specs.Tokens.{is_shallow}
use Rattle.p4_ir.specs.P4Tree.{Program}
use Rattle.p4_ir.specs.P4Text.{p4_bounds, program_tokens}
use Rattle.p4_ir.specs.P4Kinds.{kinds_fit}

abbrev pub is_well_kinded : Program → Bool
is_well_kinded p = kinds_fit p && is_shallow p4_bounds (program_tokens p)

abbrev pub WellKinded : Program → Type 0
WellKinded p = IsTrue (is_well_kinded p)
