use Rattle.std.proofs.Common.{ap, ◌∙◌}
use Rattle.cocoon_num.specs.Lists.{is_one_of}
use Rattle.cocoon_syntax.specs.TreeOf.{design_of}
use Rattle.runtime_defs.proofs.Calls.{forks-alike}
use Rattle.lower_rows.proofs.forked.is_forked.Goals as goal

pub returns : goal.returns
returns c =
    c.block_forks.ensures ∙ ap (λ fs. is_one_of fs c.args.name.now) c.ingress_body.ensures ∙ forks-alike (design_of c.args.checked.now) c.args.name.now
