use Rattle.sound_types.proofs.Together as laws
use Rattle.sound_types.proofs.laws.expressions_have_values.Goals as goal

pub returns : goal.returns
returns c = record { by_tables = laws.sound_by_tables; by_definitions = laws.sound_by_definitions }
