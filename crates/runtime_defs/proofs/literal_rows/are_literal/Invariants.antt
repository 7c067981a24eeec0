use Rattle.std.proofs.Common.{drop, map, ◌≡◌}
use Rattle.std.specs.List.{list_all}
use Rattle.cocoon_syntax.specs.TreeOf.{pattern_of}
use Rattle.cocoon_types.specs.DefsRules.{is_literal}
use Rattle.runtime_defs.proofs.literal_rows.are_literal.Given as goal

abbrev pub invariant-loop-pattern : goal.invariant-loop-pattern
invariant-loop-pattern l = list_all is_literal (map pattern_of (drop l.pattern-index l.patterns)) ≡ list_all is_literal (map pattern_of l.patterns)
