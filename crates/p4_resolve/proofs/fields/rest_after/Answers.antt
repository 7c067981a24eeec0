use Rattle.p4_resolve.proofs.NameFacts.{rest_is}
use Rattle.p4_resolve.proofs.fields.rest_after.Goals as goal

pub returns-then-starts_with : goal.returns-then-starts_with
returns-then-starts_with c = rest_is c.args.start.now c.args.name.now c.starts_with.result c.starts_with.ensures.value c.if-starts_with.true
