use Rattle.std.proofs.Common.{◌≡◌, ◌++◌, drop, map}
use Rattle.cocoon_num.specs.Tree.{Design}
use Rattle.lowering.specs.Log.{tables_in}
use Rattle.lower_code.specs.Growth.{made_in}
use Rattle.p4_ir.specs.Program.{table_of}
use Rattle.lower_net.proofs.switch_tables.tables.Given as goal

abbrev pub invariant-loop-part : goal.invariant-loop-part
invariant-loop-part l = (d : Design) → map table_of l.tables.items ++ tables_in (made_in d (drop l.part-index l.made)) ≡ tables_in (made_in d l.made)
