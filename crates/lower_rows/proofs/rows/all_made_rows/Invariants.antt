use Rattle.std.proofs.Common.{◌≡◌, ◌++◌, drop, map}
use Rattle.std.specs.Prelude.{flat_map}
use Rattle.cocoon_syntax.specs.TreeOf.{design_of}
use Rattle.lowering_correct.specs.SwitchRows.{made_rows}
use Rattle.lower_code.specs.Growth.{made_in}
use Rattle.p4_ir.specs.NetOf.{table_rows_of}
use Rattle.lower_rows.proofs.rows.all_made_rows.Given as goal

abbrev pub invariant-loop-part : goal.invariant-loop-part
invariant-loop-part l =
    map table_rows_of l.tables.items ++ flat_map (made_rows (design_of l.checked) l.defs) (made_in (design_of l.checked) (drop l.part-index l.made))
    ≡ map table_rows_of l.fn.tables.items ++ flat_map (made_rows (design_of l.checked) l.defs) (made_in (design_of l.checked) l.made)
