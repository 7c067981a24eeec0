use Rattle.std.proofs.Common.{get_or}
use Rattle.std.proofs.lemmas.List.{get_or_default}
use Rattle.runtime_defs.proofs.Zips.{zip-pushed}
use Rattle.candidates.specs.Applying.{IsArgument}
use Rattle.candidates.proofs.applying.arguments.Goals as goal

pub loop-id-preserved : goal.loop-id-preserved
loop-id-preserved c =
    let ids = c.args.ids.now in
    let at = c.loop-id.id-index in
    let id = get_or ids at 0 in
    zip-pushed (IsArgument c.args.terms.now c.args.env.now) ids c.loop-id.values.items c.push.new.self.items at id c.in_ok-argument.field-0
    c.loop-id-test.true (get_or_default ids at 0 id c.loop-id-test.true) c.loop-id.invariant c.in_ok-argument.ensures c.in_ok-push.ensures.items
