use Rattle.std.proofs.Common.{◌∙◌, ◌∷◌, [], ap, option_map}
use Rattle.cocoon_types.specs.Limits.{first_above, reported}
use Rattle.cocoon_resolve.proofs.Firsts.{one_over}
use Rattle.cocoon_resolve.proofs.counts.over.Goals as goal

pub returns : goal.returns
returns c = λ n e. c.if_over.ensures ∙ ap (λ k. option_map reported (first_above c.args.most (k ∷ []))) e ∙ one_over c.args.most n c.requires
