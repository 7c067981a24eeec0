use Rattle.refinement.proofs.Standing.{are_definitions, they_are_one, they_stand}
use Rattle.refinement.proofs.table_laws.tables_are_definitions.Goals as goal

pub returns : goal.returns
returns c = record {
  definitions = are_definitions c.definitions_fit.ensures;
  stands = they_stand c.definitions_fit.ensures c.tables_come_back.ensures;
  determined = they_are_one c.tables_come_back.ensures;
}
