-- Cited by the clauses of `from_json` and of conversions: why bytes are no file of certificates, and which fault stands for another one.
use Rattle.std.specs.Prelude.{ℕ, List}
use Rattle.json_forms.specs.Reading.{Refused}
use Rattle.json_forms.specs.declared.fault.FormFault.{FormFault}
use Rattle.json_forms.specs.declared.fault.FormFault.TheVariants as form
use Rattle.obligation_gen.specs.declared.tree.InlineFault.{InlineFault}
use Rattle.obligation_gen.specs.declared.tree.InlineFault.TheVariants as tree
use Rattle.queries.specs.declared.checking.RecheckFault.{RecheckFault}
use Rattle.queries.specs.declared.checking.RecheckFault.TheVariants as query
use Rattle.cert_text.specs.CertsForm.{certs_form}
use Rattle.cert_text.specs.declared.fault.CertFault.{CertFault}
use Rattle.cert_text.specs.declared.fault.CertFault.TheVariants.{NotJson, Shape, Paths, Big, NoMemory}

abbrev pub of_form : FormFault → CertFault
of_form form.NotJson = NotJson
of_form (form.Shape pointer) = Shape pointer
of_form form.NoMemory = NoMemory

abbrev pub of_tree : InlineFault → CertFault
of_tree (tree.Paths leaves) = Paths leaves
of_tree tree.NoMemory = NoMemory

abbrev pub of_query : RecheckFault → CertFault
of_query (query.Big clauses) = Big clauses
of_query query.NoMemory = NoMemory

-- the bytes have no value, or one that is not of its form; no other fault is one of bytes
abbrev pub IsNoFile : List ℕ → CertFault → Type 0
IsNoFile bytes NotJson = Refused certs_form bytes form.NotJson
IsNoFile bytes (Shape pointer) = Refused certs_form bytes (form.Shape pointer)
IsNoFile bytes NoMemory = Unit {0}
IsNoFile bytes fault = ⊥
