use Rattle.std.proofs.Common.{◌≡◌, ◌∙◌, rules}
use Rattle.net_bundle.proofs.Shared.{shared_numbers}
use Rattle.net_bundle.proofs.writable.SharedNetWritableNet.numbers.Goals as goal

pub returns : goal.returns
returns c =
    let copied : c.in_ok-numbers.numbers.items ≡ c.args.self.now.switches.numbers = search rules in
    copied ∙ shared_numbers c.args.self.now.switches c.args.self.now.switches.numbers
