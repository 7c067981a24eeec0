use Rattle.std.proofs.Common.{◌≡◌, [], ◌∷◌, ap, ◌∙◌, subst}
use Rattle.p4_ir.specs.P4Reads.{P4Reads}
use Rattle.net_bundle.specs.declared.file.BundleFile.TheVariants as bundle_file
use Rattle.net_bundle.specs.NetFileOf.{file_made, program_made}
use Rattle.net_bundle.specs.Writing.{AllFit, NotMade}
use Rattle.shared_net.specs.Shared.{switch_program}
use Rattle.net_bundle.proofs.InTurn.{passed}
use Rattle.net_bundle.proofs.OneSwitch.{kept_as}
use Rattle.net_bundle.proofs.make.keep_program.Goals as goal

pub returns-clause-kept : goal.returns-clause-kept
returns-clause-kept c =
    let same : file_made (bundle_file.Program c.args.number) c.as_slice-text.result.now ≡ program_made c.args.number (switch_program c.args.program.now) =
    ap (file_made (bundle_file.Program c.args.number)) (c.as_slice-text.ensures.value ∙ c.in_ok-bytes.ensures.text) in
    kept_as _ _ _ _ same c.in_ok-keep_file.ensures.kept

pub returns-clause-fit : goal.returns-clause-fit
returns-clause-fit c =
    let same : file_made (bundle_file.Program c.args.number) c.as_slice-text.result.now ≡ program_made c.args.number (switch_program c.args.program.now) =
    ap (file_made (bundle_file.Program c.args.number)) (c.as_slice-text.ensures.value ∙ c.in_ok-bytes.ensures.text) in
    subst (λ f. AllFit (f ∷ [])) same c.in_ok-keep_file.ensures.fit

pub returns-clause-reads : goal.returns-clause-reads
returns-clause-reads c = subst (λ t. P4Reads t (switch_program c.args.program.now)) c.in_ok-bytes.ensures.text c.in_ok-bytes.ensures.reads

pub returns-in_err-keep_file-clause-refused : goal.returns-in_err-keep_file-clause-refused
returns-in_err-keep_file-clause-refused c =
    let same : file_made (bundle_file.Program c.args.number) c.as_slice-text.result.now ≡ program_made c.args.number (switch_program c.args.program.now) =
    ap (file_made (bundle_file.Program c.args.number)) (c.as_slice-text.ensures.value ∙ c.in_ok-bytes.ensures.text) in
    passed (program_made c.args.number (switch_program c.args.program.now) ∷ []) _ c.in_err-keep_file.field-0.0 c.from_residual-in_err-keep_file.ensures.1
    (subst (λ f. NotMade (f ∷ []) c.in_err-keep_file.field-0.0) same c.in_err-keep_file.ensures.refused)
