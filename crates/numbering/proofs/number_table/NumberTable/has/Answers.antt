use Rattle.std.proofs.Common.{◌≡◌, is_some, rules, ap, ◌∙◌}
use Rattle.numbering.proofs.NumberFacts.{has_is}
use Rattle.numbering.proofs.number_table.NumberTable.has.Goals as goal

pub returns : goal.returns
returns c = λ numbers h.
    let is : c.is_some.result ≡ is_some c.get.result = search rules in
    is ∙ ap is_some c.get.ensures ∙ has_is c.args.self.now numbers h c.args.number
