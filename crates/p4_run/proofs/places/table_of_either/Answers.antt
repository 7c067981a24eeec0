use Rattle.std.proofs.Common.{slice_get, sym, ◌∙◌, ap}
use Rattle.p4_ir.specs.Loading.{all_tables}
use Rattle.p4_ir.specs.P4Kinds.{numbers_of}
use Rattle.p4_ir.specs.P4Tree.{P4Table}
use Rattle.p4_ir.specs.Program.{program_of}
use Rattle.p4_run.proofs.TableFacts.{found_at}
use Rattle.p4_run.proofs.places.table_of_either.Goals as goal

pub returns : goal.returns
returns c =
    let tables = all_tables (program_of c.args.program.now) in
    let n = c.args.number in
    c.table_at.ensures ∙ ap (slice_get tables) (c.place.ensures.first (numbers_of tables) c.requires) ∙ sym (found_at (λ (t : P4Table). t.number) tables n)
