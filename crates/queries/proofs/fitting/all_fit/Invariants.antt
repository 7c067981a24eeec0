use Rattle.std.proofs.Common.{◌↔◌, drop}
use Rattle.cocoon_syntax.specs.TreeOf.{design_of}
use Rattle.query_laws.specs.Certified.{AllFit}
use Rattle.queries.proofs.fitting.all_fit.Given as goal

abbrev pub invariant-loop-instance : goal.invariant-loop-instance
invariant-loop-instance l =
    AllFit (design_of l.checked) l.level (drop l.instance-index l.instances) ↔ AllFit (design_of l.checked) l.level l.instances
