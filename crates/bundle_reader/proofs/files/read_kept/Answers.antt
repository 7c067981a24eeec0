use Rattle.bundle_reader.proofs.Steps.{bytes_named, bytes_refused, bytes_rose, bytes_told, passed}
use Rattle.bundle_reader.proofs.files.read_kept.Goals as goal

pub returns-in_err-compare_digest-clause-refused : goal.returns-in_err-compare_digest-clause-refused
returns-in_err-compare_digest-clause-refused g c =
    passed _ c.in_err-compare_digest.field-0.0 _ c.from_residual-in_err-compare_digest.ensures.1
    (λ files e. bytes_refused files c.args.out.now c.args.file c.args.kept.now _ _ _ c.deref.ensures.value (c.in_ok-bytes.ensures.held files e) c.in_err-compare_digest.ensures.refused)

pub returns-in_err-compare_digest-clause-told : goal.returns-in_err-compare_digest-clause-told
returns-in_err-compare_digest-clause-told g c =
    passed _ _ _ c.from_residual-in_err-compare_digest.ensures.1 (bytes_told _ c.in_err-compare_digest.ensures.about)

pub returns-in_err-compare_digest-clause-failed : goal.returns-in_err-compare_digest-clause-failed
returns-in_err-compare_digest-clause-failed g c =
    passed _ _ _ c.from_residual-in_err-compare_digest.ensures.1 (bytes_rose _ _ _ _ c.in_ok-bytes.ensures.counted c.in_err-compare_digest.ensures.about)

pub returns-in_err-compare_digest-clause-named : goal.returns-in_err-compare_digest-clause-named
returns-in_err-compare_digest-clause-named g c =
    passed _ _ _ c.from_residual-in_err-compare_digest.ensures.1 (bytes_named (g.F.Folder.last_failure c.read_file.new.folder) c.args.out.now _ c.in_err-compare_digest.ensures.about)
