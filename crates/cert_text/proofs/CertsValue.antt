-- The value of a file of certificates: that it has no fraction, and that it is shallow.
use Rattle.std.proofs.Common.{◌≡◌, ◌≤◌, ℕ, suc, List, Some, false, refl, sym, ap, subst, ◌∙◌, max, arith}
use Rattle.serde_json.specs.Data.{Data, depth}
use Rattle.serde_json.specs.Read.{read, max_depth}
use Rattle.serde_json.specs.Written.{has_float}
use Rattle.json_forms.proofs.Plain.{no_float, within}
use Rattle.cnf_core.specs.Certificates.{Cert}
use Rattle.cert_text.proofs.LogsValue.{instances_plain, instances_shallow, log_plain, log_shallow}
use Rattle.cert_text.specs.CertsJson.{cert_data, certs_data}

cert_plain : (c : Cert) → has_float (cert_data c) ≡ false
cert_plain c = rw (instances_plain c.instances, log_plain c.log) refl

pub certs_plain : (cs : List Cert) → has_float (certs_data cs) ≡ false
certs_plain cs = rw (no_float cert_data cert_plain cs) refl

cert_shallow : (c : Cert) → depth (cert_data c) ≤ 5
cert_shallow c =
    let a = instances_shallow c.instances in
    let b = log_shallow c.log in
    grind (arith, a, b)

two_deep : (a : ℕ) → a ≤ 5 → suc (max (suc a) (max 0 0)) ≤ max_depth
two_deep a h = grind (arith)

pub certs_shallow : (cs : List Cert) → depth (certs_data cs) ≤ max_depth
certs_shallow cs = two_deep _ (within cert_data 5 cert_shallow cs)

-- what was written of a value is read back as it
pub certs_read : (d : Data) (bytes : List ℕ) (cs : List Cert) → d ≡ certs_data cs → (depth d ≤ max_depth → read bytes ≡ Some d) → read bytes ≡ Some (certs_data cs)
certs_read d bytes cs e h = h (subst (λ (x : Data). depth x ≤ max_depth) (sym e) (certs_shallow cs)) ∙ ap Some e
