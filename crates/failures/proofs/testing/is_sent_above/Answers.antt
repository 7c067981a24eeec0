use Rattle.std.proofs.Common.{◌-◌}
use Rattle.std.proofs.lemmas.Result.{IfOk-weaker}
use Rattle.cocoon_syntax.specs.TreeOf.{design_of}
use Rattle.role_meaning.specs.Located.{role_name}
use Rattle.failures.specs.Found.{defined}
use Rattle.failures.proofs.Refinable.{back_above, back_by, block_there, has_above, old_there, there_above}
use Rattle.failures.proofs.testing.is_sent_above.Goals as goal

pub can_send-requires-clause-role : goal.can_send-requires-clause-role
can_send-requires-clause-role c =
    let d = design_of c.args.checked.now in
    let above = c.args.level - 1 in
    let role = c.args.begin.now.at.role in
    let bl = block_there d c.args.level c.requires.level.0 c.requires.level.1 in
    has_above d above c.args.level role c.requires.begin.role
    (there_above d c.design.ensures.resolves.rules above bl.0 bl.1 (role_name d role) (c.requires.refined bl.0 bl.1))

pub can_send-requires-clause-back : goal.can_send-requires-clause-back
can_send-requires-clause-back c =
    let d = design_of c.args.checked.now in
    let above = c.args.level - 1 in
    let role = c.args.begin.now.at.role in
    let bl = block_there d c.args.level c.requires.level.0 c.requires.level.1 in
    back_by d above role (back_above d c.design.ensures.resolves.rules above bl.0 bl.1 (role_name d role) (c.requires.refined bl.0 bl.1))

pub can_send-requires-clause-to : goal.can_send-requires-clause-to
can_send-requires-clause-to c =
    let d = design_of c.args.checked.now in
    let above = c.args.level - 1 in
    let role = c.args.end.now.to.role in
    has_above d above c.args.level role c.requires.to (old_there d above (role_name d role) c.requires.old)

pub returns : goal.returns
returns c =
    let d = design_of c.args.checked.now in
    let tables = c.args.defs.now in
    let stands = c.tables_are_definitions.ensures.stands d tables c.design.ensures.resolves.rules c.requires.defs.fit c.requires.defs.masked in
    IfOk-weaker c.can_send.result _ _ (λ can h. h (defined d tables) stands) c.can_send.ensures
