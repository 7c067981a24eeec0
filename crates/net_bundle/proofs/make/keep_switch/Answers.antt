use Rattle.std.proofs.Common.{◌≡◌, sym, ap, ◌∙◌, subst}
use Rattle.std.specs.String.{string_bytes}
use Rattle.p4_emit.specs.Printed.{printed}
use Rattle.p4_ir.specs.P4Reads.{P4Reads}
use Rattle.p4_ir.specs.WellKinded.{WellKinded}
use Rattle.net_bundle.specs.BundleNames.{digest_of}
use Rattle.net_bundle.specs.declared.fault.BundleFault.TheVariants.{NoMemory}
use Rattle.net_bundle.specs.declared.row_texts.RowsText.{RowsText}
use Rattle.shared_net.specs.Shared.{switch_program}
use Rattle.net_bundle.proofs.Fitting.{fits_at, program_fits}
use Rattle.net_bundle.proofs.InParts.{there, told}
use Rattle.net_bundle.proofs.OneSwitch.{fit_both, kept_both, program_stops, rows_stop}
use Rattle.net_bundle.proofs.make.keep_switch.Goals as goal

pub keep_program-requires : goal.keep_program-requires
keep_program-requires g c =
    let ss = (g.N.WritableNet.net c.args.net.now).switches in
    let found = there ss c.args.index c.requires.within in
    subst WellKinded (c.program-program.ensures found.0 found.1) (program_fits found.0 (fits_at ss c.args.index found.0 found.1 c.requires.fits))

pub keep_rows-requires : goal.keep_rows-requires
keep_rows-requires g c =
    let found = there (g.N.WritableNet.net c.args.net.now).switches c.args.index c.requires.within in
    subst (λ (x : RowsText). string_bytes x.digest ≡ digest_of x.bytes.items) (sym c.text.ensures) (c.in_ok-rows.ensures found.0 found.1).digest

pub returns-in_err-keep_program-clause-refused : goal.returns-in_err-keep_program-clause-refused
returns-in_err-keep_program-clause-refused g c =
    told _ _ c.in_err-keep_program.field-0.0 c.from_residual.ensures.1
    (λ s e. program_stops s c.number-number.result (switch_program c.program-program.result) _ (c.number-number.ensures s e) (c.program-program.ensures s e) c.in_err-keep_program.ensures.refused)

pub returns-in_err-rows-clause-refused : goal.returns-in_err-rows-clause-refused
returns-in_err-rows-clause-refused g c = told _ _ NoMemory c.from_residual-in_err-rows.ensures.1 (λ s e. tt)

pub returns-in_err-keep_rows-clause-refused : goal.returns-in_err-keep_rows-clause-refused
returns-in_err-keep_rows-clause-refused g c =
    told _ _ c.in_err-keep_rows.field-0.0 c.from_residual-in_err-keep_rows.ensures.1
    (λ s e. rows_stop s c.number-number.result (switch_program c.program-program.result) c.text.result.now.bytes.items _ (c.number-number.ensures s e) (c.program-program.ensures s e)
    (ap (λ (x : RowsText). x.bytes.items) c.text.ensures ∙ (c.in_ok-rows.ensures s e).bytes) c.in_ok-keep_program.ensures.fit c.in_err-keep_rows.ensures.refused)

pub returns-clause-kept : goal.returns-clause-kept
returns-clause-kept g c s e =
    kept_both s c.number-number.result (switch_program c.program-program.result) c.text.result.now.bytes.items _ _ _ (c.number-number.ensures s e) (c.program-program.ensures s e)
    (ap (λ (x : RowsText). x.bytes.items) c.text.ensures ∙ (c.in_ok-rows.ensures s e).bytes) c.in_ok-keep_program.ensures.kept c.in_ok-keep_rows.ensures.kept

pub returns-clause-fit : goal.returns-clause-fit
returns-clause-fit g c s e =
    fit_both s c.number-number.result (switch_program c.program-program.result) c.text.result.now.bytes.items (c.number-number.ensures s e) (c.program-program.ensures s e)
    (ap (λ (x : RowsText). x.bytes.items) c.text.ensures ∙ (c.in_ok-rows.ensures s e).bytes) c.in_ok-keep_program.ensures.fit c.in_ok-keep_rows.ensures.fit

pub returns-clause-program : goal.returns-clause-program
returns-clause-program g c s e = subst (λ p. P4Reads (printed p) p) (sym (c.program-program.ensures s e)) c.in_ok-keep_program.ensures.reads

pub returns-clause-rows : goal.returns-clause-rows
returns-clause-rows g c s e = (c.in_ok-rows.ensures s e).reads
