-- The form of a file of certificates is exact.
use Rattle.std.proofs.Common.{◌≡◌, ℕ, ◌^◌, ◌↔◌, true, List, [], Option, Some, None, Ok, IsTrue, refl, sym, ap, ap₂, subst, ◌∙◌, codes}
use Rattle.std.specs.Prelude.{◌==◌}
use Rattle.std.proofs.lemmas.Bool.{and_from, and_parts, eqb-true}
use Rattle.serde_json.specs.Data.{Data, object, no_members, member}
use Rattle.cocoon_num.specs.Lists.{each}
use Rattle.json_forms.specs.Forms.{number_form, fitting, list_form, has_keys, member_form, both_of}
use Rattle.json_forms.specs.Reading.{Answered}
use Rattle.json_forms.specs.Values.{IsJson, number_data, array_data}
use Rattle.json_forms.proofs.Exact.{Exact, some_same, if_parts, both_parts, fitting_parts, number_exact, list_exact, two_members, ok_parts, ok_same, err_ok}
use Rattle.cnf_core.specs.Certificates.{Cert, Instance, Step}
use Rattle.cert_text.specs.LogsForm.{instances_form, log_form, instances_fit, log_fits}
use Rattle.cert_text.specs.LogsJson.{instances_data, log_data}
use Rattle.cert_text.proofs.LogsExact.{instances_exact, log_exact}
use Rattle.cert_text.proofs.LogsApart.{all_apart, all_instances_apart, logs_apart}
use Rattle.cert_text.specs.CertsForm.{cert_keys, cert_form, cocoon_of, certs_keys, certs_members, certs_form, cert_fits, certs_fit}
use Rattle.cert_text.specs.CertsJson.{cert_data, certs_data}

-- ---- certificates

abbrev cert_made : List Instance → List Step → Cert
cert_made is ss = record { instances = is; log = ss }

abbrev cert_object : Data → Data → Data
cert_object a b = object (member (codes "instances") a (member (codes "log") b no_members))

cert_here : (a b : Data) (c : Cert) → both_of cert_made (instances_form a) (log_form b) ≡ Some c → (cert_object a b ≡ cert_data c) × (cert_fits c ≡ true)
cert_here a b c h =
    let parts = both_parts cert_made _ _ c h in
    let instances = instances_exact.sound a parts.0 parts.2 in
    let log = log_exact.sound b parts.1 parts.3 in (
      ap₂ cert_object instances.0 log.0 ∙ ap cert_data parts.4,
      subst (λ x. cert_fits x ≡ true) parts.4 (and_from _ _ instances.1 log.1),
    )

cert_sound : (d : Data) (c : Cert) → cert_form d ≡ Some c → (d ≡ cert_data c) × (cert_fits c ≡ true)
cert_sound d c h =
    let has = if_parts (has_keys cert_keys d) _ c h in
    let members = two_members (codes "instances") (codes "log") d has.0 in
    let inside = subst (λ x. both_of cert_made (member_form instances_form (codes "instances") x) (member_form log_form (codes "log") x) ≡ Some c) members.2 has.1 in
    let found = cert_here members.0 members.1 c inside in
    (members.2 ∙ found.0, found.1)

cert_again : (a b : Data) (is : List Instance) (ss : List Step) → instances_form a ≡ Some is → log_form b ≡ Some ss → cert_form (cert_object a b) ≡ Some (cert_made is ss)
cert_again a b is ss h i = rw (h, i) refl

cert_complete : (c : Cert) → cert_fits c ≡ true → cert_form (cert_data c) ≡ Some c
cert_complete c h =
    let parts = and_parts (instances_fit c.instances) (log_fits c.log) h in
    cert_again (instances_data c.instances) (log_data c.log) c.instances c.log (instances_exact.complete c.instances parts.0) (log_exact.complete c.log parts.1)

cert_exact : Exact cert_form cert_data cert_fits
cert_exact = record { sound = cert_sound; complete = cert_complete }

certs_exact : Exact (list_form cert_form) (array_data cert_data) (each cert_fits)
certs_exact = list_exact _ _ _ cert_exact

-- ---- the file

members_parts : (certs : Option (List Cert)) (one : Option ℕ) (file : List Cert) → certs_members certs one ≡ Ok file → (certs ≡ Some file) × (n : ℕ) × (one ≡ Some n)
members_parts None one file h = absurd (err_ok _ file h)
members_parts (Some certs) None file h = absurd (err_ok _ file h)
members_parts (Some certs) (Some n) file h = (ap Some (ok_same _ file h), n, refl)

abbrev certs_object : Data → Data → Data
certs_object a b = object (member (codes "certs") a (member (codes "cocoon") b no_members))

one_is : (d : Data) (n : ℕ) → fitting (λ m. m == 1) (number_form (2 ^ 64) d) ≡ Some n → d ≡ number_data 1
one_is d n h =
    let parts = fitting_parts (λ m. m == 1) (number_form (2 ^ 64) d) n h in
    ((number_exact (2 ^ 64)).sound d n parts.0).0 ∙ ap number_data (eqb-true n 1 parts.1)

certs_sound : (d : Data) (cs : List Cert) → certs_form d ≡ Ok cs → (d ≡ certs_data cs) × IsTrue (certs_fit cs)
certs_sound d cs h =
    let has = ok_parts (has_keys certs_keys d) [] _ cs h in
    let members = two_members (codes "certs") (codes "cocoon") d has.0 in
    let inside = subst (λ x. certs_members (member_form (list_form cert_form) (codes "certs") x) (cocoon_of x) ≡ Ok cs) members.2 has.1 in
    let parts = members_parts (list_form cert_form members.0) (fitting (λ m. m == 1) (number_form (2 ^ 64) members.1)) cs inside in
    let certs = certs_exact.sound members.0 cs parts.0 in
    (members.2 ∙ ap₂ certs_object certs.0 (one_is members.1 parts.1 parts.2), certs.1)

certs_again : (a : Data) (cs : List Cert) → list_form cert_form a ≡ Some cs → certs_form (certs_object a (number_data 1)) ≡ Ok cs
certs_again a cs h = rw h refl

certs_complete : (cs : List Cert) → IsTrue (certs_fit cs) → certs_form (certs_data cs) ≡ Ok cs
certs_complete cs h = certs_again (array_data cert_data cs) cs (certs_exact.complete cs h)

pub certs_is_exact : (d : Data) (cs : List Cert) → (certs_form d ≡ Ok cs) ↔ ((d ≡ certs_data cs) × IsTrue (certs_fit cs))
certs_is_exact d cs = (certs_sound d cs, λ h. ap certs_form h.0 ∙ certs_complete cs h.1)

-- ---- what is read back

certs_apart : (c d : Cert) → cert_data c ≡ cert_data d → c ≡ d
certs_apart c d e = ap₂ cert_made (all_instances_apart c.instances d.instances cc) (logs_apart c.log d.log cc)

file_apart : (cs ds : List Cert) → certs_data cs ≡ certs_data ds → cs ≡ ds
file_apart cs ds e = all_apart cert_data certs_apart cs ds cc

pub read_back : (bytes : List ℕ) (certs read : List Cert) → IsJson bytes (certs_data certs) → Answered certs_form bytes (Ok read) → read ≡ certs
read_back bytes certs read json a =
    let value : a.value ≡ certs_data certs = some_same _ _ (sym a.is.1 ∙ json.1) in
    file_apart read certs (sym (certs_sound a.value read a.answers).0 ∙ value)
