use Rattle.std.proofs.Common.{◌≡◌, drop, map}
use Rattle.std.specs.Prelude.{filter_map}
use Rattle.cocoon_num.specs.Lists.{first_of}
use Rattle.cocoon_syntax.specs.TreeOf.{entry_of}
use Rattle.cocoon_types.specs.Tables.{default_of}
use Rattle.runtime_defs.proofs.tables.default_value.Given as goal

abbrev pub invariant-loop-entry : goal.invariant-loop-entry
invariant-loop-entry l = first_of (filter_map (default_of l.function) (map entry_of (drop l.entry-index l.entries))) ≡ first_of (filter_map (default_of l.function) (map entry_of l.entries))
