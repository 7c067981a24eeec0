use Rattle.std.proofs.Common.{None, refl, rules}
use Rattle.bundle_reader.specs.Parts.{OfFiles}
use Rattle.bundle_reader.specs.Readings.{IsFirstFault}
use Rattle.bundle_reader.proofs.Steps.{net_refused}
use Rattle.bundle_reader.proofs.reading.read_network.Goals as goal
use Rattle.net_bundle.specs.NetFileOf.{net_file_of}

pub returns-in_err-text-clause-refused : goal.returns-in_err-text-clause-refused
returns-in_err-text-clause-refused g c =
    let refused : OfFiles (g.F.Folder.content c.args.folder.now) (λ files. IsFirstFault files c.args.out.now c.in_err-text.field-0.0) = λ files e. c.in_err-text.ensures.refused files e None refl in
    search rules

pub returns-in-Ok-clause-fits : goal.returns-in-Ok-clause-fits
returns-in-Ok-clause-fits g c =
    let answered = c.in-Ok.ensures.file in
    ((c.net_form_is_exact.ensures answered.value (net_file_of c.in-Ok.file)).0 answered.answers).1

pub returns-clause-refused : goal.returns-clause-refused
returns-clause-refused g c files e =
    net_refused files c.args.out.now c.in_ok-text.text.items _ c.in-Err.fault _ (c.in_ok-text.ensures.held files e) c.deref.ensures.value c.in-Err.ensures.fault c.form_fault.ensures
