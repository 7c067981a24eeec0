use Rattle.cocoon_resolve.proofs.RoleNames.{role_step, all_seen}
use Rattle.cocoon_resolve.proofs.counts.role_count.Goals as goal

pub loop-decl-preserved : goal.loop-decl-preserved
loop-decl-preserved c = role_step c.args.decls.now c.loop-decl.decl-index c.decl-item.result c.loop-decl.seen.keys c.new_role.new.seen.keys c.loop-decl.count c.in_ok-new_role.field-0 c.saturating_add-count.result c.loop-decl-test.true c.decl-item.is c.loop-decl.invariant (c.in_ok-new_role.ensures {u = tt}) c.saturating_add-count.ensures

pub returns : goal.returns
returns c = all_seen c.args.decls.now c.loop-decl.decl-index c.loop-decl.seen.keys c.loop-decl.count c.loop-decl-test.false c.loop-decl.invariant
