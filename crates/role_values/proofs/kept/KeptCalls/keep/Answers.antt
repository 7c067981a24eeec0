use Rattle.role_values.proofs.KeptValues.{kept-more}
use Rattle.role_values.proofs.kept.KeptCalls.keep.Goals as goal

pub returns : goal.returns
returns c = λ design tables h is.
    kept-more design tables c.args.self.now c.insert.new.self c.args.key c.args.value h is c.in_ok-insert.ensures.updates
