use Rattle.std.proofs.Common.{◌∙◌, ap, refl, subst, sym}
use Rattle.p4_ir.specs.Program.{program_of}
use Rattle.p4_ir.specs.NetOf.{rows_of}
use Rattle.p4_ir.specs.NetTree.{SwitchFiles}
use Rattle.bundle_reader.specs.Parts.{OfFiles, SwitchFault, SwitchWell}
use Rattle.bundle_reader.proofs.Steps.{load_named, load_refused, load_rose, load_told, passed}
use Rattle.bundle_reader.proofs.switches.read_switch.Goals as goal

pub returns-in_err-rows-clause-refused : goal.returns-in_err-rows-clause-refused
returns-in_err-rows-clause-refused g c =
    let refused : OfFiles (g.F.Folder.content c.args.folder.now) (SwitchFault c.args.out.now c.args.switch c.args.program.now c.args.rows.now c.in_err-rows.field-0.0) =
    λ files e up. c.in_err-rows.ensures.refused files (c.read_program.ensures.same ∙ e)
    (c.args.program.now, c.args.rows.now, refl, up, program_of c.in_ok-program.program, c.in_ok-program.ensures.program files e) in
    passed _ c.in_err-rows.field-0.0 _ c.from_residual-in_err-rows.ensures.1 refused

pub returns-clause-refused : goal.returns-clause-refused
returns-clause-refused g c files e up =
    load_refused files c.args.out.now c.args.switch c.args.program.now c.args.rows.now (program_of c.in_ok-program.program) (rows_of c.in_ok-rows.rows.rows) c.in-Err.fault _ up
    (c.in_ok-program.ensures.program files e) (c.in_ok-rows.ensures.rows files (c.read_program.ensures.same ∙ e)) c.in-Err.ensures.fault c.load_fault.ensures

pub returns-clause-told : goal.returns-clause-told
returns-clause-told g c = load_told c.in-Err.fault _ _ c.in-Err.ensures.fault c.load_fault.ensures

pub returns-clause-failed : goal.returns-clause-failed
returns-clause-failed g c =
    load_rose _ _ _ c.in-Err.fault _ (c.in_ok-rows.ensures.counted ∙ c.in_ok-program.ensures.counted) c.load_fault.ensures

pub returns-in-Ok-clause-number : goal.returns-in-Ok-clause-number
returns-in-Ok-clause-number g c = ap (λ (s : SwitchFiles). s.number) c.in-Ok.ensures.runs

pub returns-in-Ok-clause-well : goal.returns-in-Ok-clause-well
returns-in-Ok-clause-well g c files e =
    subst (λ s. SwitchWell c.args.out.now c.args.switch c.args.program.now c.args.rows.now s files) (sym c.in-Ok.ensures.runs)
    (c.in_ok-program.ensures.program files e, c.in_ok-rows.ensures.rows files (c.read_program.ensures.same ∙ e), c.in-Ok.ensures.loads)

pub returns-clause-named : goal.returns-clause-named
returns-clause-named g c = load_named (g.F.Folder.last_failure c.read_switch_rows.new.folder) c.args.out.now c.in-Err.fault _ c.load_fault.ensures
