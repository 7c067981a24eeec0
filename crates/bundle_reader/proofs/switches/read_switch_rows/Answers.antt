use Rattle.std.proofs.Common.{Some}
use Rattle.bundle_reader.proofs.Steps.{bytes_named, bytes_rose, bytes_told, passed}
use Rattle.bundle_reader.proofs.switches.read_switch_rows.Goals as goal

pub returns-in_err-bytes-clause-refused : goal.returns-in_err-bytes-clause-refused
returns-in_err-bytes-clause-refused g c =
    passed _ c.in_err-bytes.field-0.0 _ c.from_residual.ensures.1 (λ files e. c.in_err-bytes.ensures.refused files e (Some c.args.kept.now))

pub returns-in_err-read-clause-refused : goal.returns-in_err-read-clause-refused
returns-in_err-read-clause-refused g c =
    passed _ c.in_err-read.field-0.0 _ c.from_residual-in_err-read.ensures.1
    (λ files e turn. c.in_err-read.ensures.refused files c.args.out.now (c.in_ok-bytes.ensures.held files e) turn)

pub returns-in_err-read-clause-told : goal.returns-in_err-read-clause-told
returns-in_err-read-clause-told g c = passed _ _ _ c.from_residual-in_err-read.ensures.1 (bytes_told _ c.in_err-read.ensures.about)

pub returns-in_err-read-clause-failed : goal.returns-in_err-read-clause-failed
returns-in_err-read-clause-failed g c =
    passed _ _ _ c.from_residual-in_err-read.ensures.1 (bytes_rose _ _ _ _ c.in_ok-bytes.ensures.counted c.in_err-read.ensures.about)

pub returns-in_err-read-clause-named : goal.returns-in_err-read-clause-named
returns-in_err-read-clause-named g c = passed _ _ _ c.from_residual-in_err-read.ensures.1 (bytes_named (g.F.Folder.last_failure c.read_file.new.folder) c.args.out.now _ c.in_err-read.ensures.about)

pub returns-clause-rows : goal.returns-clause-rows
returns-clause-rows g c files e =
    let holds = c.in_ok-read.ensures.holds in
    (c.in_ok-bytes.bytes.items, c.in_ok-bytes.ensures.held files e, holds.0, holds.1)
