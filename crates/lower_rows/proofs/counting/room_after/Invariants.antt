use Rattle.std.proofs.Common.{◌≡◌, drop, length}
use Rattle.std.specs.Prelude.{flat_map}
use Rattle.cocoon_syntax.specs.TreeOf.{design_of}
use Rattle.lowering_correct.specs.SwitchRows.{made_rows}
use Rattle.lower_code.specs.Growth.{made_in}
use Rattle.lower_rows.specs.AllRows.{room_left, rows_in}
use Rattle.lower_rows.proofs.counting.room_after.Given as goal

abbrev pub invariant-loop-part : goal.invariant-loop-part
invariant-loop-part l =
    room_left l.left (length (rows_in (flat_map (made_rows (design_of l.checked) l.defs) (made_in (design_of l.checked) (drop l.part-index l.made)))))
    ≡ room_left l.fn.room (length (rows_in (flat_map (made_rows (design_of l.checked) l.defs) (made_in (design_of l.checked) l.made))))
