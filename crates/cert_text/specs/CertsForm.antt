-- The form of a file of certificates, member by member in ascending order of keys. The clauses of `from_json` cite it. It
-- follows "Certificates" in docs/FORMATS.md.
use Rattle.std.specs.Prelude.{ℕ, ℤ, ◌^◌, ◌==◌, ◌&&◌, Bool, List, [], ◌∷◌, Option, Some, None, if◌then◌else◌, Result, Ok, Err, codes}
use Rattle.serde_json.specs.Data.{Data}
use Rattle.cocoon_num.specs.Lists.{each}
use Rattle.json_forms.specs.Forms.{number_form, fitting, list_form, has_keys, member_form, both_of}
use Rattle.cnf_core.specs.Certificates.{Cert, Instance, Step}
use Rattle.cert_text.specs.LogsForm.{instances_form, log_form, instances_fit, log_fits}

abbrev pub cert_keys : List (List ℕ)
cert_keys = codes "instances" ∷ codes "log" ∷ []

-- {"instances":[INSTANCE],"log":LOG}
abbrev pub cert_form : Data → Option Cert
cert_form d =
    if has_keys cert_keys d
    then both_of (λ is ss. record { instances = is; log = ss }) (member_form instances_form (codes "instances") d) (member_form log_form (codes "log") d)
    else None

abbrev pub cocoon_of : Data → Option ℕ
cocoon_of d = fitting (λ n. n == 1) (member_form (number_form (2 ^ 64)) (codes "cocoon") d)

abbrev pub certs_keys : List (List ℕ)
certs_keys = codes "certs" ∷ codes "cocoon" ∷ []

-- both members, or the pointer of the first that is not of its form
abbrev pub certs_members : Option (List Cert) → Option ℕ → Result (List Cert) (List ℕ)
certs_members None one = Err (codes "/certs")
certs_members (Some certs) None = Err (codes "/cocoon")
certs_members (Some certs) (Some one) = Ok certs

-- {"certs":[CERT],"cocoon":1}: the certificates, or the pointer of the first member that is not of its form, with no text for
-- a value that is no object, lacks a key or has an unknown one
abbrev pub certs_form : Data → Result (List Cert) (List ℕ)
certs_form d =
    if has_keys certs_keys d
    then certs_members (member_form (list_form cert_form) (codes "certs") d) (cocoon_of d)
    else Err []

-- ---- the same of two parts, each where it is of its form, for clauses inside the crate

abbrev pub step_of_two : Option (List ℤ) × Option (List ℕ) → Option Step
step_of_two p = both_of (λ ls hs. record { clause = ls; hints = hs }) p.0 p.1

abbrev pub instance_of_two : Option ℕ × Option (List ℕ) → Option Instance
instance_of_two p = both_of (λ a vs. record { number = a; values = vs }) p.0 p.1

abbrev pub cert_of_two : Option (List Instance) × Option (List Step) → Option Cert
cert_of_two p = both_of (λ is ss. record { instances = is; log = ss }) p.0 p.1

abbrev pub both : Option (List Cert) → Option ℕ → Option (List Cert) × Option ℕ
both certs cocoon = (certs, cocoon)

abbrev pub certs_of_two : Option (Option (List Cert) × Option ℕ) → Result (List Cert) (List ℕ)
certs_of_two None = Err []
certs_of_two (Some p) = certs_members p.0 (fitting (λ n. n == 1) p.1)

-- ---- which certificates are of the form

abbrev pub cert_fits : Cert → Bool
cert_fits c = instances_fit c.instances && log_fits c.log

-- each literal is one that the file may have, and so is each number
abbrev pub certs_fit : List Cert → Bool
certs_fit cs = each cert_fits cs
