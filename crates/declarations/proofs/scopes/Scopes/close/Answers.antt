use Rattle.std.proofs.Common.{rules}
use Rattle.declarations.proofs.Keeping.{closing}
use Rattle.declarations.proofs.scopes.Scopes.close.Goals as goal

pub loop-self-preserved : goal.loop-self-preserved
loop-self-preserved c =
    let more = closing c.args.depth c.args.self.now c.loop-self.self c.unbind.new.self c.loop-self.invariant.left (search rules) c.in_ok-unbind.ensures in
    record { enough = more.0; left = more.1 }
