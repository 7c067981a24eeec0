use Rattle.net_bundle.proofs.ReadingDigests.{digest_fits}
use Rattle.bundle_reader.proofs.OneReading.{Laws}
use Rattle.bundle_reader.proofs.WireReading as wires
use Rattle.bundle_reader.proofs.laws.one_wiring.Goals as goal

pub returns : goal.returns
returns c =
    let laws : Laws = record {
      answer = c.one_answer.ensures;
      net_exact = c.net_form_is_exact.ensures;
      rows_exact = c.rows_form_is_exact.ensures;
      load_exact = c.rows_without_fault_load.ensures;
      digest_fits = digest_fits;
    } in
    wires.one_wiring laws
