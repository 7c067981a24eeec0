use Rattle.std.proofs.Common.{◌≡◌, None, rules}
use Rattle.p4_ir.specs.NetOf.{rows_of}
use Rattle.p4_ir.specs.Program.{program_of}
use Rattle.p4_run.specs.Faults.{load_fault}
use Rattle.p4_run.proofs.LoadLaws.{loads_from_none}
use Rattle.p4_run.proofs.loaded.Loaded.new.Goals as goal

pub resolved-requires-clause-loads : goal.resolved-requires-clause-loads
resolved-requires-clause-loads c =
    let none : load_fault (program_of c.args.program.now) (rows_of c.args.rows.now) ≡ None = search rules in
    loads_from_none (program_of c.args.program.now) (rows_of c.args.rows.now) none
