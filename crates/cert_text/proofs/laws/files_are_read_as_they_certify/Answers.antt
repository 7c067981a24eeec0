use Rattle.std.proofs.Common.{subst, sym}
use Rattle.cert_text.specs.Certifying.{CertsShow}
use Rattle.cert_text.proofs.OneCert.{same_certs}
use Rattle.cert_text.proofs.Showing.{file_of}
use Rattle.cert_text.proofs.laws.files_are_read_as_they_certify.Goals as goal

pub returns : goal.returns
returns c = record {
  read = λ d bytes certs h read. subst (CertsShow d) (sym (same_certs certs.certs h.certs (c.written_reads_back.ensures bytes _ _ h.is read))) h.shows;
  written = λ d bytes certs read shows. file_of d bytes certs read ((c.certs_form_is_exact.ensures read.value _).0 read.answers).0 shows;
}
