use Rattle.std.proofs.Common.{rules}
use Rattle.std.specs.Prelude.{IsTrue}
use Rattle.solver_tests.proofs.flattening.flattened.Goals as goal

pub flatten-requires-clause-alike : goal.flatten-requires-clause-alike
flatten-requires-clause-alike c =
    let can : IsTrue c.can_be_flat.result = search rules in
    (c.can_be_flat.ensures can).2
