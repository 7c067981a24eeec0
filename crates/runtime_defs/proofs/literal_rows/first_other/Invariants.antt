use Rattle.std.proofs.Common.{◌≡◌, ℕ, List, drop, map}
use Rattle.cocoon_num.specs.Lists.{first_of}
use Rattle.cocoon_syntax.specs.TreeOf.{design_of, entry_of}
use Rattle.cocoon_types.specs.DefsRules.{DefsFault, other_entries}
use Rattle.runtime_defs.specs.Sets.{AreKnown, Holds}
use Rattle.runtime_defs.proofs.literal_rows.first_other.Given as goal

abbrev pub invariant-loop-entry : goal.invariant-loop-entry
invariant-loop-entry l = record {
  known : AreKnown (design_of l.checked) (map entry_of (drop l.entry-index l.entries));
  rest : (fs : List (List ℕ)) (fault : ℕ → DefsFault)
      → Holds (design_of l.checked) fs l.functions → first_of (other_entries fs fault (map entry_of (drop l.entry-index l.entries))) ≡ first_of (other_entries fs fault (map entry_of l.entries));
}
