-- Cited by the law `networks_fit`: which programs can be written as text and read back, with their rows.
use Rattle.std.specs.Prelude.{◌≡◌, ◌<◌, ◌^◌, true, List, length}
use Rattle.lowering.specs.Log.{tables_in}
use Rattle.lowering.specs.Lower.{Made}
use Rattle.p4_ir.specs.P4Tree.{Program}
use Rattle.p4_ir.specs.WellKinded.{is_well_kinded}

-- the program is well kinded, and what was made for it has not too many tables
pub record IsWritable (p : Program) (made : List Made) : Type 0 where
  pub kinds : is_well_kinded p ≡ true
  pub tables : length (tables_in made) < 2 ^ 32
