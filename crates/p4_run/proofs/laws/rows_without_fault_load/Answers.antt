use Rattle.p4_run.proofs.LoadLaws.{loads_from_none, none_from_loads}
use Rattle.p4_run.proofs.laws.rows_without_fault_load.Goals as goal

pub returns : goal.returns
returns c = λ p r. (loads_from_none p r, none_from_loads p r)
