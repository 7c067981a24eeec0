use Rattle.std.proofs.Common.{◌≡◌, rules}
use Rattle.net_wiring.proofs.wiring.wiring_only.Goals as goal

pub returns-in-Some-clause-first : goal.returns-in-Some-clause-first
returns-in-Some-clause-first c =
    let ports : c.args.old.now.ports ≡ c.args.new.now.ports = search rules in
    (ports, c.in-Some.ensures.first)
