use Rattle.cocoon_num.proofs.Packing.{leave-enter}
use Rattle.cocoon_num.proofs.packets.leave_undoes_enter.Goals as goal

pub returns : goal.returns
returns c = leave-enter
