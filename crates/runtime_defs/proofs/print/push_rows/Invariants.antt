use Rattle.std.proofs.Common.{drop, map}
use Rattle.cocoon_syntax.specs.TreeOf.{function_of}
use Rattle.runtime_defs.specs.EntryTexts.{entry_text}
use Rattle.runtime_defs.specs.EntryPlaces.{row_entry}
use Rattle.text_lines.specs.Printing.{each_text}
use Rattle.text_lines.proofs.Printing.{Leads}
use Rattle.runtime_defs.proofs.print.push_rows.Given as goal

abbrev pub invariant-loop-row : goal.invariant-loop-row
invariant-loop-row l =
    Leads l.fn.out l.out (each_text entry_text (map (row_entry (function_of l.function) l.table.widths) (drop l.row-index l.table.rows))) (each_text entry_text (map (row_entry (function_of l.function) l.table.widths) l.table.rows))
