use Rattle.cocoon_syntax.specs.TreeOf.{design_of}
use Rattle.obligation_tests.proofs.Shown.{owed_at}
use Rattle.obligation_tests.proofs.certified.decided.Goals as goal

pub decide-requires-clause-owed : goal.decide-requires-clause-owed
decide-requires-clause-owed c =
    owed_at (design_of c.args.checked.now) c.args.terms.now c.args.obligations.now c.loop-number.number c.index-obligations-number.result c.requires c.loop-number-test.true c.index-obligations-number.is
