use Rattle.std.proofs.Common.{drop}
use Rattle.runtime_defs.specs.EntryTexts.{more_patterns_text}
use Rattle.runtime_defs.specs.EntryPlaces.{key_patterns}
use Rattle.text_lines.proofs.Printing.{Leads}
use Rattle.runtime_defs.proofs.print.push_more_patterns.Given as goal

abbrev pub invariant-loop-at : goal.invariant-loop-at
invariant-loop-at l =
    Leads l.fn.out l.out (more_patterns_text (drop l.at (key_patterns l.widths l.row.values l.row.masks))) (more_patterns_text (drop 1 (key_patterns l.widths l.row.values l.row.masks)))
