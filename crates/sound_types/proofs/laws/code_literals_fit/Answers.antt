use Rattle.sound_types.proofs.CodeLiterals as laws
use Rattle.sound_types.proofs.laws.code_literals_fit.Goals as goal

pub returns : goal.returns
returns c = record { designs = laws.code_design_fits; definitions = laws.code_entries_fit }
