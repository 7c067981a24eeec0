use Rattle.runtime_defs.proofs.SwitchWidth.{switch-fits}
use Rattle.runtime_defs.proofs.laws.switch_numbers_are_short.Goals as goal

pub returns : goal.returns
returns c = λ d f n r h. switch-fits d r.rules f h n
