use Rattle.std.proofs.Common.{◌≡◌, [], ◌∷◌, ap, subst}
use Rattle.net_bundle.specs.declared.file.BundleFile.TheVariants as bundle_file
use Rattle.net_bundle.specs.NetFileOf.{file_made, rows_made}
use Rattle.net_bundle.specs.Writing.{AllFit, NotMade}
use Rattle.net_bundle.proofs.InTurn.{passed}
use Rattle.net_bundle.proofs.OneSwitch.{kept_as}
use Rattle.net_bundle.proofs.make.keep_rows.Goals as goal

pub returns-clause-kept : goal.returns-clause-kept
returns-clause-kept c =
    let same : file_made (bundle_file.Rows c.args.number) c.as_slice-bytes.result.now ≡ rows_made c.args.number c.args.text.now.bytes.items =
    ap (file_made (bundle_file.Rows c.args.number)) c.as_slice-bytes.ensures.value in
    kept_as _ _ _ _ same c.in_ok-keep_file.ensures.kept

pub returns-clause-fit : goal.returns-clause-fit
returns-clause-fit c =
    let same : file_made (bundle_file.Rows c.args.number) c.as_slice-bytes.result.now ≡ rows_made c.args.number c.args.text.now.bytes.items =
    ap (file_made (bundle_file.Rows c.args.number)) c.as_slice-bytes.ensures.value in
    subst (λ f. AllFit (f ∷ [])) same c.in_ok-keep_file.ensures.fit

pub returns-in_err-keep_file-clause-refused : goal.returns-in_err-keep_file-clause-refused
returns-in_err-keep_file-clause-refused c =
    let same : file_made (bundle_file.Rows c.args.number) c.as_slice-bytes.result.now ≡ rows_made c.args.number c.args.text.now.bytes.items =
    ap (file_made (bundle_file.Rows c.args.number)) c.as_slice-bytes.ensures.value in
    passed (rows_made c.args.number c.args.text.now.bytes.items ∷ []) _ c.in_err-keep_file.field-0.0 c.from_residual-in_err-keep_file.ensures.1
    (subst (λ f. NotMade (f ∷ []) c.in_err-keep_file.field-0.0) same c.in_err-keep_file.ensures.refused)
