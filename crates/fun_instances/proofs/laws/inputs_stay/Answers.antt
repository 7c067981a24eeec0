use Rattle.fun_instances.proofs.OwnInputs.{all_kept}
use Rattle.fun_instances.proofs.laws.inputs_stay.Goals as goal

pub returns : goal.returns
returns c = λ ws old new k h. record { ids = h.ids; inputs = all_kept old new k.kept k.inputs h.ids ws h.inputs }
