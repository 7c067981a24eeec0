use Rattle.cocoon_syntax.specs.TreeOf.{design_of}
use Rattle.obligation_tests.proofs.Shown.{found_owed}
use Rattle.obligation_tests.proofs.owed.obligation.Goals as goal

pub returns : goal.returns
returns c = found_owed (design_of c.args.checked.now) c.args.terms.now c.args.all.now c.args.number c.get.result c.requires c.get.ensures.lookup.0 c.get.ensures.lookup.1
