use Rattle.cocoon_syntax.specs.TreeOf.{design_of}
use Rattle.failure_reading.proofs.Owning.{has_level, has_role, of_block, owned}
use Rattle.failure_reading.proofs.reading.know_block.Goals as goal

pub returns-clause-level : goal.returns-clause-level
returns-clause-level c =
    let d = design_of c.args.checked.now in
    let o = c.args.obligation.now in
    has_level d o.level o.role (owned d c.requires.0 o c.requires.1)

pub returns-clause-role : goal.returns-clause-role
returns-clause-role c =
    let d = design_of c.args.checked.now in
    let o = c.args.obligation.now in
    has_role d c.design.ensures.resolves.rules o.level o.role (owned d c.requires.0 o c.requires.1)

pub returns-clause-refined : goal.returns-clause-refined
returns-clause-refined c =
    let d = design_of c.args.checked.now in
    let o = c.args.obligation.now in
    of_block d o.level o.role (owned d c.requires.0 o c.requires.1)
