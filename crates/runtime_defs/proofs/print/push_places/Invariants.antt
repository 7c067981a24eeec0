use Rattle.std.proofs.Common.{drop}
use Rattle.cocoon_syntax.specs.TreeOf.{design_of}
use Rattle.cocoon_types.specs.Design.{functions}
use Rattle.runtime_defs.specs.EntryTexts.{entry_text}
use Rattle.runtime_defs.specs.EntryPlaces.{all_entries}
use Rattle.text_lines.specs.Printing.{each_text}
use Rattle.text_lines.proofs.Printing.{Leads}
use Rattle.runtime_defs.proofs.print.push_places.Given as goal

abbrev pub invariant-loop-number : goal.invariant-loop-number
invariant-loop-number l =
    Leads l.fn.out l.out (each_text entry_text (all_entries (drop l.number (functions (design_of l.checked))) (drop l.number l.places))) (each_text entry_text (all_entries (functions (design_of l.checked)) l.places))
