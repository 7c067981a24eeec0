use Rattle.std.proofs.Common.{drop}
use Rattle.p4_ir.specs.Program.{program_of}
use Rattle.p4_emit.specs.Printed.{each_text, key_text}
use Rattle.p4_emit.proofs.Printing.{Leads}
use Rattle.p4_emit.proofs.print.push_keys.Given as goal

abbrev pub invariant-loop-key : goal.invariant-loop-key
invariant-loop-key l = Leads l.fn.out l.out (each_text (key_text (program_of l.program) l.exact) (drop l.key-index l.keys)) (each_text (key_text (program_of l.program) l.exact) l.keys)
