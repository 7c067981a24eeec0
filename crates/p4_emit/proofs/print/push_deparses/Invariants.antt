use Rattle.std.proofs.Common.{drop, map}
use Rattle.p4_ir.specs.Program.{header_of}
use Rattle.p4_emit.specs.Printed.{each_text, deparse_text}
use Rattle.p4_emit.proofs.Printing.{Leads}
use Rattle.p4_emit.proofs.print.push_deparses.Given as goal

abbrev pub invariant-loop-header : goal.invariant-loop-header
invariant-loop-header l = Leads l.fn.out l.out (each_text deparse_text (map header_of (drop l.header-index l.headers))) (each_text deparse_text (map header_of l.headers))
