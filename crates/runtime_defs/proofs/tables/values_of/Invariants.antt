use Rattle.std.proofs.Common.{◌≡◌, ◌++◌, drop, map}
use Rattle.cocoon_syntax.specs.TreeOf.{pattern_of}
use Rattle.runtime_defs.specs.Bound.{pattern_value}
use Rattle.runtime_defs.proofs.tables.values_of.Given as goal

abbrev pub invariant-loop-pattern : goal.invariant-loop-pattern
invariant-loop-pattern l = l.values.items ++ map pattern_value (map pattern_of (drop l.pattern-index l.patterns)) ≡ map pattern_value (map pattern_of l.patterns)
