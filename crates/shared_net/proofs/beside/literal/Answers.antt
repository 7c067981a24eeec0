use Rattle.shared_net.proofs.Lone.{lone_lit}
use Rattle.shared_net.proofs.beside.literal.Goals as goal

pub returns-in_default : goal.returns-in_default
returns-in_default c = lone_lit c.args.number c.args.own.width c.args.own.value c.args.other.now c.in_default.not-Lit
