use Rattle.std.proofs.Common.{◌≡◌, drop}
use Rattle.p4_ir.specs.Loading.{keys_fit}
use Rattle.p4_ir.specs.Program.{program_of}
use Rattle.p4_run.proofs.faults.keys_fit.Given as goal

abbrev pub invariant-loop-index : goal.invariant-loop-index
invariant-loop-index l =
    keys_fit (program_of l.program) l.exact (drop l.index l.keys) (drop l.index l.values) (drop l.index l.masks)
    ≡ keys_fit (program_of l.program) l.exact l.keys l.values l.masks
