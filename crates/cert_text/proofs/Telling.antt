-- Faults of the crates below, as they are told here.
use Rattle.std.proofs.Common.{Result, Ok, Err, ◌≡◌, ◌≢◌, ℕ, List, length, sym, ap, subst, ◌∙◌}
use Rattle.std.specs.Result.{IfErr, IsErrAnd, OnOk}
use Rattle.std.proofs.lemmas.Slice.Zip.{AllZip-long}
use Rattle.cocoon_num.specs.Tree.{Design}
use Rattle.bv_terms.specs.declared.node.Node.{Node}
use Rattle.cnf_core.specs.declared.certificates.Cert.{Cert}
use Rattle.cert_text.specs.CertsForm.{certs_form}
use Rattle.obligation_gen.specs.declared.tree.InlineFault.{InlineFault}
use Rattle.obligation_gen.specs.declared.tree.InlineFault.TheVariants as tree
use Rattle.json_forms.specs.Reading.{Refused as IsUnread}
use Rattle.json_forms.specs.declared.fault.FormFault.{FormFault}
use Rattle.json_forms.specs.declared.fault.FormFault.TheVariants as form
use Rattle.obligation_gen.specs.Counted.{AreFew, TellsFirst, all_counts}
use Rattle.obligation_gen.specs.Shown.{ShowsObligation, ShowsObligations}
use Rattle.obligation_gen.specs.declared.obligation.Obligation.{Obligation}
use Rattle.obligation_laws.specs.Obligations.{all_obligations}
use Rattle.cert_text.specs.Faults.{IsNoFile, of_form, of_tree}
use Rattle.cert_text.specs.Rechecking.{AreNotAsMany, Decides, FirstIs, Tells, reported}
use Rattle.cert_text.specs.declared.fault.CertFault.{CertFault}
use Rattle.cert_text.specs.declared.fault.CertFault.TheVariants.{NotJson, Shape, Refused, Count, Paths, Big, NoMemory}

-- an error that is passed on
pub passed : {A E : Type 0} (r : Result A E) (e : E) (P : E → Type 0) → IsErrAnd r (λ y. y ≡ e) → P e → IfErr r P
passed (Ok x) e P is h = tt
passed (Err y) e P is h = subst P (sym is) h

-- what is known of an answer, and what follows from it
pub told_on : {A E : Type 0} (r : Result A E) {P Q : E → Type 0} → ((e : E) → P e → Q e) → IfErr r P → IfErr r Q
told_on (Ok x) f h = tt
told_on (Err e) f h = f e h

pub on_ok : {A E P Q : Type 0} (r : Result A E) → (P → Q) → OnOk r P → OnOk r Q
on_ok (Ok x) f h = f h
on_ok (Err e) f h = tt

pub always : {A E P : Type 0} (r : Result A E) → P → OnOk r P
always (Ok x) h = h
always (Err e) h = tt

pub no_file : (bytes : List ℕ) (f : FormFault) → IsUnread certs_form bytes f → IsNoFile bytes (of_form f)
no_file bytes form.NotJson h = h
no_file bytes (form.Shape pointer) h = h
no_file bytes form.NoMemory h = tt

pub large_tree : (d : Design) (certs : List Cert) (f : InlineFault) → TellsFirst (all_counts d) f → Tells d certs (of_tree f)
large_tree d certs (tree.Paths leaves) h = h
large_tree d certs tree.NoMemory h = tt

module _ (d : Design) (certs : List Cert) (few : AreFew (all_counts d)) (nodes : List Node) (os : List Obligation) (owed : ShowsObligations d nodes os (all_obligations d)) where
  counted : length (all_obligations d) ≡ length os
  counted = AllZip-long (ShowsObligation d nodes) os (all_obligations d) owed

  pub miscounted : length certs ≢ length os → (found wanted : ℕ) → found ≡ reported (length certs) → wanted ≡ reported (length os) → AreNotAsMany d certs found wanted
  miscounted differ found wanted f w = record {
    few = few;
    differ = λ e. differ (e ∙ counted);
    found_ = f;
    wanted_ = w ∙ ap reported (sym counted);
  }

  pub first_told : length certs ≡ length os → (fault : CertFault) → FirstIs d certs (λ n o c. Decides d n o c fault) → Tells d certs fault
  first_told e NotJson h = absurd h.here.is
  first_told e (Shape pointer) h = absurd h.here.is
  first_told e (Paths leaves) h = absurd h.here.is
  first_told e (Count found wanted) h = absurd h.here.is
  first_told e (Refused n) h = (record { few = few; as_many = e ∙ sym counted }, h)
  first_told e (Big count) h = (record { few = few; as_many = e ∙ sym counted }, h)
  first_told e NoMemory h = tt
