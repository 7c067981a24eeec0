use Rattle.std.proofs.Common.{subst}
use Rattle.cocoon_syntax.specs.TreeOf.{design_of, entries_of}
use Rattle.cocoon_types.specs.DefsRules.{defs_faults}
use Rattle.runtime_defs.specs.Faults.{FirstFault}
use Rattle.runtime_defs.proofs.Firsts.{none-is}
use Rattle.runtime_defs.proofs.defs.bind.Goals as goal

pub bind_fitting-requires : goal.bind_fitting-requires
bind_fitting-requires c = none-is (design_of c.args.checked.now) (defs_faults (design_of c.args.checked.now) (entries_of c.args.defs))
    (subst (FirstFault (design_of c.args.checked.now) (entries_of c.args.defs)) c.in-None.is c.in_ok-fault.ensures)
