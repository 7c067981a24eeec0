use Rattle.std.proofs.Common.{ap, ◌∙◌, subst, inl, refl}
use Rattle.p4_ir.specs.WellKinded.{WellKinded}
use Rattle.net_bundle.specs.declared.fault.BundleFault.TheVariants.{NoMemory}
use Rattle.net_bundle.specs.declared.row_texts.RowsText.{RowsText}
use Rattle.shared_net.specs.Shared.{switch_program}
use Rattle.net_bundle.proofs.Fitting.{fits_at, program_fits}
use Rattle.net_bundle.proofs.InParts.{switch_fit, there, told}
use Rattle.net_bundle.proofs.OneSwitch.{both_written, first_fit, first_stops, second_fit, second_stops}
use Rattle.net_bundle.proofs.write.write_switch.Goals as goal

pub emit_switch-requires : goal.emit_switch-requires
emit_switch-requires g c =
    let ss = (g.N.WritableNet.net c.args.net.now).switches in
    let found = there ss c.args.index c.requires.within in
    record { well_kinded = subst WellKinded (c.program-program.ensures found.0 found.1) (program_fits found.0 (fits_at ss c.args.index found.0 found.1 c.requires.fits)) }

pub write_file-requires : goal.write_file-requires
write_file-requires g c =
    let ss = (g.N.WritableNet.net c.args.net.now).switches in
    let found = there ss c.args.index c.requires.within in
    record {
      fit = first_fit found.0 c.number-number.result (switch_program c.program-program.result) _ (c.number-number.ensures found.0 found.1) (c.program-program.ensures found.0 found.1)
          (c.as_slice-first.ensures.value ∙ c.in_ok-printed.ensures.text) (switch_fit ss c.args.index found.0 found.1 c.requires.fit);
    }

pub write_file-requires-2 : goal.write_file-requires-2
write_file-requires-2 g c =
    let ss = (g.N.WritableNet.net c.args.net.now).switches in
    let found = there ss c.args.index c.requires.within in
    record {
      fit = second_fit found.0 c.number-number.result _ (c.number-number.ensures found.0 found.1)
          (c.as_slice-second.ensures.value ∙ ap (λ (x : RowsText). x.bytes.items) c.text-text.ensures ∙ (c.in_ok-rows.ensures found.0 found.1).bytes) (switch_fit ss c.args.index found.0 found.1 c.requires.fit);
    }

pub returns-in_err-printed-clause-refused : goal.returns-in_err-printed-clause-refused
returns-in_err-printed-clause-refused g c = told _ _ NoMemory c.from_residual.ensures.1 (λ s e. inl refl)

pub returns-in_err-rows-clause-refused : goal.returns-in_err-rows-clause-refused
returns-in_err-rows-clause-refused g c = told _ _ NoMemory c.from_residual-in_err-rows.ensures.1 (λ s e. inl refl)

pub returns-in_err-write_file-clause-refused : goal.returns-in_err-write_file-clause-refused
returns-in_err-write_file-clause-refused g c =
    let ss = (g.N.WritableNet.net c.args.net.now).switches in
    told _ _ c.in_err-write_file.field-0.0 c.from_residual-in_err-write_file.ensures.1
    (λ s e. first_stops c.args.out.now s c.number-number.result (switch_program c.program-program.result) _ (g.F.Folder.content c.args.folder.now)
    (g.F.Folder.content c.write_file.new.folder) _ (c.number-number.ensures s e) (c.program-program.ensures s e)
    (c.as_slice-first.ensures.value ∙ c.in_ok-printed.ensures.text) (switch_fit ss c.args.index s e c.requires.fit) c.in_err-write_file.ensures.refused)

pub returns-in_err-write_file-2-clause-refused : goal.returns-in_err-write_file-2-clause-refused
returns-in_err-write_file-2-clause-refused g c =
    let ss = (g.N.WritableNet.net c.args.net.now).switches in
    told _ _ c.in_err-write_file-2.field-0.0 c.from_residual-in_err-write_file-2.ensures.1
    (λ s e. second_stops c.args.out.now s c.number-number.result (switch_program c.program-program.result) _ _ (g.F.Folder.content c.args.folder.now)
    (g.F.Folder.content c.write_file.new.folder) (g.F.Folder.content c.write_file-2.new.folder) _ (c.number-number.ensures s e) (c.program-program.ensures s e)
    (c.as_slice-first.ensures.value ∙ c.in_ok-printed.ensures.text) (c.as_slice-second.ensures.value ∙ ap (λ (x : RowsText). x.bytes.items) c.text-text.ensures ∙ (c.in_ok-rows.ensures s e).bytes)
    (switch_fit ss c.args.index s e c.requires.fit) c.in_ok-write_file.ensures.written c.in_err-write_file-2.ensures.refused)

pub returns-clause-written : goal.returns-clause-written
returns-clause-written g c s e =
    both_written c.args.out.now s c.number-number.result (switch_program c.program-program.result) _ _ (g.F.Folder.content c.args.folder.now)
    (g.F.Folder.content c.write_file.new.folder) (g.F.Folder.content c.write_file-2.new.folder) (c.number-number.ensures s e) (c.program-program.ensures s e)
    (c.as_slice-first.ensures.value ∙ c.in_ok-printed.ensures.text) (c.as_slice-second.ensures.value ∙ ap (λ (x : RowsText). x.bytes.items) c.text-text.ensures ∙ (c.in_ok-rows.ensures s e).bytes)
    c.in_ok-write_file.ensures.written c.in_ok-write_file-2.ensures.written
