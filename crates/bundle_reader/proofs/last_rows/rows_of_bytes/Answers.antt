use Rattle.std.proofs.Common.{◌∙◌, ap, subst, sym}
use Rattle.net_bundle.specs.BundleNames.{digest_of}
use Rattle.bundle_reader.specs.Parts.{HoldsRows}
use Rattle.bundle_reader.proofs.Steps.{rows_refused}
use Rattle.bundle_reader.proofs.last_rows.rows_of_bytes.Goals as goal

pub returns-in-Some-clause-holds : goal.returns-in-Some-clause-holds
returns-in-Some-clause-holds c = subst (λ b. HoldsRows b c.args.kept.now c.in-Some.known) c.as_slice-text.ensures.value c.in-Some.ensures.holds

pub returns-in-Err-clause-refused : goal.returns-in-Err-clause-refused
returns-in-Err-clause-refused c files out held turn =
    let fresh = sym (ap digest_of c.as_slice-text.ensures.value) ∙ c.in_ok-compare_digest.ensures.fresh in
    rows_refused files out c.args.switch c.args.kept.now c.args.bytes.items _ c.in-Err.fault _ turn held fresh c.as_slice-text.ensures.value c.in-Err.ensures.fault c.form_fault.ensures
