use Rattle.std.proofs.Common.{◌++◌, [], ap, ◌∙◌}
use Rattle.std.proofs.lemmas.List.{append-nil}
use Rattle.cocoon_num.specs.Lists.{is_one_of}
use Rattle.cocoon_syntax.specs.TreeOf.{design_of}
use Rattle.cocoon_types.specs.DefsRules.{fork_calls}
use Rattle.runtime_defs.specs.Sets.{switch_forks}
use Rattle.runtime_defs.proofs.Calls.{forks-alike}
use Rattle.runtime_defs.proofs.Members.{holds-alike}
use Rattle.runtime_defs.proofs.literal_rows.fork_functions.Goals as goal

pub returns : goal.returns
returns c =
    let d = design_of c.args.checked.now in
    holds-alike d c.add_switch_forks.new.set (switch_forks d ++ []) (fork_calls d)
    (λ x. ap (λ l. is_one_of l x) (append-nil (switch_forks d)) ∙ forks-alike d x)
    (c.in_ok-add_switch_forks.ensures [] (c.new-set.ensures d))
