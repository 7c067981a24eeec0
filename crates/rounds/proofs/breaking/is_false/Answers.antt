use Rattle.std.proofs.Common.{rules}
use Rattle.std.specs.Bool.{IsTrue}
use Rattle.cocoon_syntax.specs.TreeOf.{design_of}
use Rattle.rounds.proofs.breaking.is_false.Goals as goal

pub evaluate-requires-clause-functions : goal.evaluate-requires-clause-functions
evaluate-requires-clause-functions c =
    let yes : IsTrue c.has_functions.result = search rules in
    record {
      params = c.params_are_declared.ensures (design_of c.args.checked.now) c.design-design.ensures.resolves;
      before = c.has_functions.ensures yes;
      shapes = c.tables.ensures.shapes;
    }
