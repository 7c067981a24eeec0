use Rattle.std.proofs.Common.{◌≡◌, drop}
use Rattle.reference_programs.specs.Widths.{is_layout}
use Rattle.reference_programs.proofs.layouts.is_layout.Given as goal

abbrev pub invariant-loop-widths : goal.invariant-loop-widths
invariant-loop-widths l = is_layout (drop l.widths-index l.layout) ≡ is_layout l.layout
