use Rattle.sound_types.proofs.Together as laws
use Rattle.sound_types.proofs.laws.runs_by_tables.Goals as goal

pub returns : goal.returns
returns c = record {
  guards = laws.same_guards c.tables_give_values.ensures;
  runs = laws.same_runs c.tables_give_values.ensures;
  walks = laws.same_walks c.tables_give_values.ensures;
}
