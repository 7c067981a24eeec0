use Rattle.std.proofs.Common.{map, sym, ◌∙◌, ap}
use Rattle.p4_ir.specs.Program.{table_of}
use Rattle.p4_run.specs.Faults.{first_missing}
use Rattle.p4_run.proofs.FaultSteps.{missing_behind, missing_in_prefix}
use Rattle.p4_run.proofs.faults.missing_table.Goals as goal

pub returns-in-Some : goal.returns-in-Some
returns-in-Some c = λ numbers h.
    let p = c.args.program.now in
    sym (missing_in_prefix numbers (map table_of p.ingress.tables) (map table_of p.egress.tables) c.in-Some.number
    (ap (λ ts. first_missing numbers (map table_of ts)) (sym c.items.ensures) ∙ sym (c.in-Some.ensures numbers h)))

pub returns-in-None : goal.returns-in-None
returns-in-None c = λ numbers h.
    let p = c.args.program.now in
    c.missing_of-in-None.ensures numbers h ∙ ap (λ ts. first_missing numbers (map table_of ts)) c.items-in-None.ensures
    ∙ sym (missing_behind numbers (map table_of p.ingress.tables) (map table_of p.egress.tables)
    (ap (λ ts. first_missing numbers (map table_of ts)) (sym c.items.ensures) ∙ sym (c.in-None.ensures numbers h)))
