use Rattle.sound_types.proofs.Together as laws
use Rattle.sound_types.proofs.laws.runs_keep_types.Goals as goal

pub returns : goal.returns
returns c = record { by_tables = laws.keeps_by_tables; by_definitions = laws.keeps_by_definitions }
