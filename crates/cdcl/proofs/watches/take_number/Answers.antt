use Rattle.std.proofs.Common.{subst, sym}
use Rattle.cdcl.specs.Watching.{IsTakenOut}
use Rattle.cdcl.proofs.Watched.{moved-out, swapped-out}
use Rattle.cdcl.proofs.watches.take_number.Goals as goal

pub returns-then-len-at-gt-MOST_MOVED-clause-there : goal.returns-then-len-at-gt-MOST_MOVED-clause-there
returns-then-len-at-gt-MOST_MOVED-clause-there c = subst (IsTakenOut c.args.list.now.items c.args.at) (sym c.swap_remove.ensures.items)
    (swapped-out c.args.list.now.items c.args.at c.swap_remove.result c.requires c.swap_remove.ensures.value)

pub returns-else-len-at-gt-MOST_MOVED-clause-there : goal.returns-else-len-at-gt-MOST_MOVED-clause-there
returns-else-len-at-gt-MOST_MOVED-clause-there c = subst (IsTakenOut c.args.list.now.items c.args.at) (sym c.remove.ensures.items)
    (moved-out c.args.list.now.items c.args.at c.requires)
