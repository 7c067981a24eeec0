use Rattle.std.proofs.Common.{ℕ, List, Option, drop}
use Rattle.std.specs.Prelude.{flat_map}
use Rattle.cocoon_syntax.specs.TreeOf.{design_of}
use Rattle.cocoon_types.specs.Design.{functions}
use Rattle.runtime_defs.specs.declared.fault.DefsFault.{DefsFault}
use Rattle.runtime_defs.specs.Faults.{IsFirst}
use Rattle.runtime_defs.specs.Sets.{Holds, missing_of}
use Rattle.runtime_defs.proofs.finding.first_missing.Given as goal

abbrev pub invariant-loop-number : goal.invariant-loop-number
invariant-loop-number l = (fs : List (List ℕ)) → Holds (design_of l.checked) fs l.defaulted → (r : Option DefsFault)
    → IsFirst (design_of l.checked) (flat_map (missing_of fs) (drop l.number (functions (design_of l.checked)))) r
    → IsFirst (design_of l.checked) (flat_map (missing_of fs) (functions (design_of l.checked))) r
