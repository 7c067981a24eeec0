use Rattle.cocoon_num.proofs.Packing.{enter-leave}
use Rattle.cocoon_num.proofs.packets.enter_undoes_leave.Goals as goal

pub returns : goal.returns
returns c = enter-leave
